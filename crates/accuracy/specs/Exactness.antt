-- "Say which chances are exact": what the marks show, and what a mark promises.
use Rattle.std.specs.Prelude.{◌≡◌, List, ℕ, ◌≤◌, ℤ, pos, get_or}
use Rattle.algebra.specs.Fraction.{Fraction, whole, ◌≈◌, ◌≼◌}
use Rattle.model.specs.declared.Job.{Job}
use Rattle.model.specs.Mark.{mark_of}
use Rattle.exact.specs.JobAmount.{Divisible, amount}
use Rattle.rows.specs.Exact.{curve_marks}
use Rattle.compound.specs.Lent.{Lent}
use Rattle.compound.specs.Call.{curve_lent}
use Rattle.accuracy.specs.Accuracy.{Accepted, shown}

-- "The marks of row 0 go to a fourth lent row, 1 for exact and 0 otherwise"
abbrev pub shown_mark : Job → List ℕ → Lent → ℕ → ℤ
shown_mark job weights lent x = get_or (curve_lent job weights lent).mark x (pos 0)

-- they are those of the wish's rule (`MarkRule` of rows/specs/Exact)
abbrev pub ShowsMarks : Type 0
ShowsMarks = (job : Job) (weights : List ℕ) (lent : Lent) → Accepted job weights lent
    → (x : ℕ) → x ≤ job.last → shown_mark job weights lent x ≡ mark_of (curve_marks job weights 0 x)

-- "low and high of an exact entry of row 0 are the clerk's amounts for the low and the high start": each is right for its own start. Where
-- the mark is 0 they may be right or not. With LAW 1 1, TERM -1 0, START 4 6, LAST 2 and one weight, 1, total 2 has 4 and 6, which are the
-- clerk's amounts, and no mark, since it uses total 1, which has -6 and -4 where the clerk has -4 and -6
abbrev pub ExactIsClerks : Type 0
ExactIsClerks = (job : Job) (weights : List ℕ) (lent : Lent) → Accepted job weights lent
    → (h : Divisible job weights) (x : ℕ) → x ≤ job.last → shown_mark job weights lent x ≡ pos 1
    → (whole (shown job weights lent x).low ≈ amount job weights h (whole (pos job.start.low)) x)
    × (whole (shown job weights lent x).high ≈ amount job weights h (whole (pos job.start.high)) x)

-- where low equals high, it is the clerk's amount for every starting chance from the low to the high start. That takes no mark: the amount
-- lies from low to high (`Encloses`)
abbrev pub EqualEndsKnown : Type 0
EqualEndsKnown = (job : Job) (weights : List ℕ) (lent : Lent) → Accepted job weights lent
    → (h : Divisible job weights) (x : ℕ) → x ≤ job.last → (shown job weights lent x).low ≡ (shown job weights lent x).high
    → (p : Fraction) → whole (pos job.start.low) ≼ p → p ≼ whole (pos job.start.high)
    → whole (shown job weights lent x).low ≈ amount job weights h p x

-- and it always has its mark, so that a line without one has its low below its high
abbrev pub EqualEndsMarked : Type 0
EqualEndsMarked = (job : Job) (weights : List ℕ) (lent : Lent) → Accepted job weights lent
    → (x : ℕ) → x ≤ job.last → (shown job weights lent x).low ≡ (shown job weights lent x).high → shown_mark job weights lent x ≡ pos 1
