-- Demand 3 for a job whose law is what a call of `published` made: the amounts of the customer's own sequence; and that the curve takes the
-- law, as 53 is its own 2 or 3.
use Rattle.std.specs.Prelude.{◌≡◌, Bool, false, not, List, ℕ, ◌≤◌, ℤ, pos}
use Rattle.algebra.specs.Fraction.{Fraction, Between}
use Rattle.model.specs.declared.Job.{Job}
use Rattle.model.specs.Answer.{accepted}
use Rattle.model.specs.Limits.{outside}
use Rattle.exact.specs.JobAmount.{Divisible, severity}
use Rattle.published.specs.Call.{Made, turned_law, wrong_law}
use Rattle.published.specs.Satisfies.{own_amount, OfBoth}
use Rattle.compound.specs.Lent.{Lent}
use Rattle.compound.specs.Call.{curve_answer}
use Rattle.accuracy.specs.Accuracy.{Accepted, shown}

-- a job with the law made, where no claim is of size 0: for every sequence with the customer's line, in units, that begins within the
-- start, the amount at each total lies from low to high
abbrev pub EnclosesOwn : Made → ((ℕ → Fraction) → Type 0) → Type 0
EnclosesOwn made Line = made.answer ≡ accepted
    → (job : Job) (weights : List ℕ) (lent : Lent) → Accepted job weights lent → job.law ≡ made.law → job.zero ≡ 0
    → (p : ℕ → Fraction) → Line p → Between (pos job.start.low) (pos job.start.high) (p 0)
    → (d : Divisible job weights) (x : ℕ) → x ≤ job.last
    → Between (shown job weights lent x).low (shown job weights lent x).high (own_amount p (severity weights d.total_pos) x)

abbrev pub EnclosesPublished : Type 0
EnclosesPublished = OfBoth EnclosesOwn

-- the curve refuses the job by its law: by 1, 2 or 3
abbrev pub law_refused : Job → List ℕ → Lent → Bool
law_refused job weights lent = not (outside 1 3 (curve_answer job weights lent).number)

-- "outside our limits": the condition of 53 holds of D, A and B exactly where the curve refuses the law with these numbers, signs turned,
-- whatever the rest of the job is
abbrev pub SameLimits : Type 0
SameLimits = (D A B : ℤ) (job : Job) (weights : List ℕ) (lent : Lent) → job.law ≡ turned_law D A B
    → wrong_law D A B ≡ law_refused job weights lent

-- so no job is refused for a law that a call has made
abbrev pub LawTaken : Type 0
LawTaken = OfBoth (λ made _. made.answer ≡ accepted → (job : Job) (weights : List ℕ) (lent : Lent) → job.law ≡ made.law
    → law_refused job weights lent ≡ false)
