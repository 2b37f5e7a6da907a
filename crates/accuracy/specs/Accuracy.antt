-- Demand 3: for every accepted job, every total from 0 to X and every starting chance from the low start to the high start, the exact
-- amount lies from low to high; high minus low is at most the bound; the bound depends on law, table and the start's gap alone.
use Rattle.std.specs.Prelude.{◌≡◌, List, ℕ, suc, ◌≤◌, ◌<◌, ℤ, pos, ◌-ℤ◌, ◌≤ℤ◌, get_or}
use Rattle.algebra.specs.Fraction.{Fraction, whole, ◌≼◌}
use Rattle.model.specs.declared.Start.{Start}
use Rattle.model.specs.declared.Job.{Job}
use Rattle.model.specs.Answer.{accepted}
use Rattle.exact.specs.JobAmount.{Divisible, amount}
use Rattle.enclosure.specs.declared.Entry.{Entry}
use Rattle.enclosure.specs.Entry.{EntryFits}
use Rattle.rows.specs.Curve.{sums_at, curve_rows}
use Rattle.compound.specs.Lent.{Lent}
use Rattle.compound.specs.Call.{curve_answer, curve_lent}

-- ---- the call
-- "A job is accepted when, with the rows lent to the curve call, no condition of that call's list holds."
abbrev pub Accepted : Job → List ℕ → Lent → Type 0
Accepted job weights lent = curve_answer job weights lent ≡ accepted

-- "The tool's low, high and bound at a total x from 0 to X are then what place x of the three lent rows holds on return."
abbrev pub shown : Job → List ℕ → Lent → ℕ → Entry
shown job weights lent x = record {
  low = get_or (curve_lent job weights lent).low x (pos 0);
  high = get_or (curve_lent job weights lent).high x (pos 0);
  bound = get_or (curve_lent job weights lent).bound x (pos 0);
}

-- ---- the statements
-- an accepted job has its exact amounts
abbrev pub AcceptedDivisible : Type 0
AcceptedDivisible = (job : Job) (weights : List ℕ) (lent : Lent) → Accepted job weights lent → Divisible job weights

-- the tool shows row 0 of the curve, whose low, high and bound are those of the paper's rule (`CurveRule` of rows/specs/Curve)
abbrev pub ShowsCurve : Type 0
ShowsCurve = (job : Job) (weights : List ℕ) (lent : Lent) → Accepted job weights lent
    → (x : ℕ) → x ≤ job.last → shown job weights lent x ≡ curve_rows job weights 0 x

-- every sum that is divided on the way to an accepted job's rows fits 64 bits
abbrev pub AcceptedSumsFit : Type 0
AcceptedSumsFit = (job : Job) (weights : List ℕ) (lent : Lent) → Accepted job weights lent
    → (x : ℕ) → x < job.last → (j : ℕ) → j < job.law.order → EntryFits (sums_at job.law weights (curve_rows job weights) j (suc x))

-- the exact amount lies from low to high, for every starting chance from s to t, whole or fraction, ends included
abbrev pub Encloses : Type 0
Encloses = (job : Job) (weights : List ℕ) (lent : Lent) → Accepted job weights lent
    → (h : Divisible job weights) (x : ℕ) → x ≤ job.last
    → (p : Fraction) → whole (pos job.start.low) ≼ p → p ≼ whole (pos job.start.high)
    → (whole (shown job weights lent x).low ≼ amount job weights h p x)
    × (amount job weights h p x ≼ whole (shown job weights lent x).high)

-- high minus low is at most the bound
abbrev pub GapWithinBound : Type 0
GapWithinBound = (job : Job) (weights : List ℕ) (lent : Lent) → Accepted job weights lent → (x : ℕ) → x ≤ job.last
    → ((shown job weights lent x).high -ℤ (shown job weights lent x).low) ≤ℤ (shown job weights lent x).bound

-- "the gap of the start is t-s"
abbrev pub gap : Start → ℤ
gap start = pos start.high -ℤ pos start.low

-- two accepted jobs alike in law, table, with w(0) among its weights, and gap have the same bounds at each total that both reach
abbrev pub SameBounds : Type 0
SameBounds = (job job' : Job) (weights : List ℕ) (lent lent' : Lent) → Accepted job weights lent → Accepted job' weights lent'
    → job.law ≡ job'.law → job.zero ≡ job'.zero → gap job.start ≡ gap job'.start
    → (x : ℕ) → x ≤ job.last → x ≤ job'.last → (shown job weights lent x).bound ≡ (shown job' weights lent' x).bound
