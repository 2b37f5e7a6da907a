-- Faults: "9: at the smallest x that has a fault, a low or high of any row lies outside -2U to 2U. 10: at that x none does, but a bound of
-- any row is above U."
use Rattle.std.specs.Prelude.{Bool, false, ◌&&◌, ◌||◌, List, ℕ, ◌+◌, ltb}
use Rattle.algebra.specs.Smallest.{smallest}
use Rattle.algebra.specs.Sum.{accumulate}
use Rattle.model.specs.declared.Job.{Job}
use Rattle.enclosure.specs.declared.Entry.{Entry}
use Rattle.enclosure.specs.Entry.{out_of_range, bound_too_large}
use Rattle.rows.specs.Curve.{Rows, curve_rows}

-- some of the rows 0 to k - 1 has the fault at total x
abbrev pub any_row : (Entry → Bool) → ℕ → Rows → ℕ → Bool
any_row fault order rows x = accumulate false ◌||◌ order (λ j. fault (rows j x))

abbrev pub fault_at : ℕ → Rows → ℕ → Bool
fault_at order rows x = any_row out_of_range order rows x || any_row bound_too_large order rows x

-- the smallest total with a fault, or X + 1 where no total has one
unfoldable pub first_fault : Job → List ℕ → ℕ
first_fault job weights = smallest (fault_at job.law.order (curve_rows job weights)) (job.last + 1)

-- whether at that total a low or high is out of range; where none is, the fault is a bound's
unfoldable pub range_fault : Job → List ℕ → Bool
range_fault job weights = ltb (first_fault job weights) (job.last + 1)
    && any_row out_of_range job.law.order (curve_rows job weights) (first_fault job weights)
