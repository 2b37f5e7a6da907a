-- Demand 3 for a job whose start is what a call of `start` gave: the exact amounts with the very number that was asked for. "Wish 1 serves
-- only tables with weight 0 there": with w(0) above 0 a mean or a chance is that of the claims that are not zero.
use Rattle.std.specs.Prelude.{◌≡◌, false, List, ℕ, ◌/◌, ◌≤◌, ◌<◌}
use Rattle.algebra.specs.Fraction.{Fraction, Between}
use Rattle.model.specs.declared.Start.{Start}
use Rattle.model.specs.declared.Job.{Job}
use Rattle.exact.specs.JobAmount.{Divisible, amount}
use Rattle.start.specs.Call.{given, start_of_mean, start_of_trials}
use Rattle.start.specs.Holds.{power_units, series_units}
use Rattle.compound.specs.Lent.{Lent}
use Rattle.compound.specs.Call.{wrong_start}
use Rattle.accuracy.specs.Accuracy.{Accepted, shown}

-- with a starting chance of p units the exact amount at x lies from low to high
abbrev pub EnclosedFor : (job : Job) (weights : List ℕ) → Lent → Divisible job weights → ℕ → Fraction → Type 0
EnclosedFor job weights lent d x p = Between (shown job weights lent x).low (shown job weights lent x).high (amount job weights d p x)

-- a job with the start of N trials: for the exact power its exact amounts lie from low to high
abbrev pub EnclosesPower : Type 0
EnclosesPower = (job : Job) (weights : List ℕ) (lent : Lent) → Accepted job weights lent
    → (r s N : ℕ) → start_of_trials r s N ≡ given job.start → (h : 1 ≤ s)
    → (d : Divisible job weights) (x : ℕ) → x ≤ job.last → EnclosedFor job weights lent d x (power_units r s N h)

-- a job with the start of a mean: so they do for every product of partial sums, each taken to term 13 or further
abbrev pub EnclosesSeries : Type 0
EnclosesSeries = (job : Job) (weights : List ℕ) (lent : Lent) → Accepted job weights lent
    → (r s : ℕ) → start_of_mean r s ≡ given job.start → (h : 1 ≤ s)
    → (n : ℕ) (ns : ℕ → ℕ) → 13 ≤ n → ((i : ℕ) → i < r / s → 13 ≤ ns i)
    → (d : Divisible job weights) (x : ℕ) → x ≤ job.last → EnclosedFor job weights lent d x (series_units r s h n ns)

-- the curve's check 4 does not refuse what was given
abbrev pub StartTaken : Type 0
StartTaken = (start : Start)
    → ((r s : ℕ) → start_of_mean r s ≡ given start → wrong_start start ≡ false)
    × ((r s N : ℕ) → start_of_trials r s N ≡ given start → wrong_start start ≡ false)
