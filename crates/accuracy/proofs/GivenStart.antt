-- By `Encloses`, of a number of units that the start holds; and check 4 is what `IsStart` says of the start.
use mathlib.Core.Path.{◌≡◌, ap}
use mathlib.Core.Bool.{false}
use mathlib.Core.List.{List}
use Prim.Native.Nat.{ℕ, ◌≤◌}
use borrow.Author.Tests.{le-ltb}
use Rattle.algebra.specs.Fraction.{Fraction}
use Rattle.algebra.proofs.Integer.{of_pos}
use Rattle.model.specs.declared.Start.{Start}
use Rattle.model.specs.declared.Job.{Job}
use Rattle.model.specs.Answer.{accepted}
use Rattle.model.specs.Limits.{unit}
use Rattle.model.proofs.Tests.{inside}
use Rattle.exact.specs.JobAmount.{Divisible}
use Rattle.start.specs.Call.{Started, given}
use Rattle.start.specs.Holds.{Holds, Passes}
use Rattle.start.proofs.IsStart.{is_start}
use Rattle.start.proofs.PowerHeld.{holds_power}
use Rattle.start.proofs.SeriesHeld.{holds_series}
use Rattle.compound.specs.Lent.{Lent}
use Rattle.compound.specs.Call.{wrong_start}
use Rattle.accuracy.specs.Accuracy.{Accepted}
use Rattle.accuracy.specs.GivenStart.{EnclosedFor, EnclosesPower, EnclosesSeries, StartTaken}
use Rattle.accuracy.proofs.Accuracy.{encloses}

not_refused : {started : Started} {start : Start} → started ≡ given start → started.answer ≡ accepted
not_refused e = ap (λ (s : Started). s.answer) e

held : (job : Job) (weights : List ℕ) (lent : Lent) → Accepted job weights lent → {started : Started} → started ≡ given job.start
    → {p : Fraction} → Holds started.ends p → (d : Divisible job weights) (x : ℕ) → x ≤ job.last → EnclosedFor job weights lent d x p
held job weights lent ok e {p} h d x l = let (low, high) = rw e at h in encloses job weights lent ok d x l p low high

pub encloses_power : EnclosesPower
encloses_power job weights lent ok r s N e h d x l = held job weights lent ok e (holds_power r s N (not_refused e) h) d x l

pub encloses_series : EnclosesSeries
encloses_series job weights lent ok r s e h n ns m each d x l =
    held job weights lent ok e (holds_series r s (not_refused e) h n ns m each) d x l

taken : (start : Start) {started : Started} → started ≡ given start → Passes started.ends → wrong_start start ≡ false
taken start e k = let (in_unit, at_least_lem) = rw e at k in rw (
  le-ltb start.high start.low (of_pos in_unit.in_order),
  inside 1 unit start.high (of_pos at_least_lem) (of_pos in_unit.at_most),
)

pub start_taken : StartTaken
start_taken start = (
  (λ r s e. taken start e (is_start.0 r s (not_refused e))),
  (λ r s N e. taken start e (is_start.1 r s N (not_refused e))),
)
