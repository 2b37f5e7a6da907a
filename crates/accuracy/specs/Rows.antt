-- The rows of an accepted job, as the calls on a low row and a high row take them, and what is said of them and of the job's exact amounts.
use Rattle.std.specs.Prelude.{List, ℕ, ◌+◌, ℤ, pos, take}
use Rattle.algebra.specs.Fraction.{Fraction, whole, ◌≼◌}
use Rattle.model.specs.declared.Job.{Job}
use Rattle.exact.specs.JobAmount.{Divisible, amount}
use Rattle.compound.specs.Lent.{Lent}
use Rattle.compound.specs.Call.{curve_lent}
use Rattle.intervals.specs.Amounts.{Enclose}
use Rattle.accuracy.specs.Accuracy.{Accepted}

-- the first X+1 places of the lent rows on return
abbrev pub lows : Job → List ℕ → Lent → List ℤ
lows job weights lent = take (job.last + 1) (curve_lent job weights lent).low

abbrev pub highs : Job → List ℕ → Lent → List ℤ
highs job weights lent = take (job.last + 1) (curve_lent job weights lent).high

-- what is said of them and of the exact amounts, for every starting chance from s to t, whole or fraction, ends included
abbrev pub OfEveryStart : (List ℤ → List ℤ → (ℕ → Fraction) → Type 0) → Type 0
OfEveryStart Said = (job : Job) (weights : List ℕ) (lent : Lent) → Accepted job weights lent
    → (h : Divisible job weights) (p : Fraction) → whole (pos job.start.low) ≼ p → p ≼ whole (pos job.start.high)
    → Said (lows job weights lent) (highs job weights lent) (amount job weights h p)

-- the exact amounts lie from low to high, at each total of the rows
abbrev pub RowsEnclose : Type 0
RowsEnclose = OfEveryStart Enclose
