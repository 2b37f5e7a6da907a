-- "Say which chances are exact": the marks of the curve's entries.
use Rattle.std.specs.Prelude.{◌≡◌, Bool, true, false, ◌&&◌, List, ℕ, zero, suc, ◌-◌, ◌<◌, ℤ, pos, get_or}
use Rattle.algebra.specs.Sum.{all_of}
use Rattle.algebra.specs.Tabled.{Grid, tabled}
use Rattle.model.specs.declared.Law.{Law}
use Rattle.model.specs.declared.Job.{Job}
use Rattle.enclosure.specs.Entry.{divides_sums}
use Rattle.enclosure.specs.Mark.{keeps_exact}
use Rattle.rows.specs.Curve.{Rows, severities, factor, sums_at, divisor_at, curve_rows}

-- whether the entry of row j at total z is exact
abbrev pub Marks : Type 0
Marks = Grid Bool

-- the ends of rows of entries
abbrev pub lows : Rows → Grid ℤ
lows rows j z = (rows j z).low

abbrev pub highs : Rows → Grid ℤ
highs rows j z = (rows j z).high

-- "every entry used with a nonzero factor and weight is exact and, under a negative factor, has equal ends": those that row j + 1 uses
unfoldable pub used_next : List ℕ → (low high : Grid ℤ) → Marks → ℕ → ℕ → Bool
used_next weights low high marks j x = all_of (severities weights x) (λ y.
    keeps_exact (pos (get_or weights y 0)) (low j (x - suc y)) (high j (x - suc y)) (marks j (x - suc y)))

module _ (law : Law) (weights : List ℕ) (low high : Grid ℤ) (marks : Marks) where
  -- and those that row 0 uses
  unfoldable pub used_zero : ℕ → Bool
  used_zero x = all_of law.order (λ i. all_of (severities weights x) (λ y.
      keeps_exact (factor law weights x i y) (low i (x - suc y)) (high i (x - suc y)) (marks i (x - suc y))))

  abbrev pub used_at : ℕ → ℕ → Bool
  used_at zero x = used_zero x
  used_at (suc j) x = used_next weights low high marks j x

module _ (job : Job) (weights : List ℕ) where
  -- "neither sum's division left a remainder", of row j at total x; at total 0 nothing is divided
  unfoldable pub divides_at : Rows → ℕ → ℕ → Bool
  divides_at rows j zero = true
  divides_at rows j (suc x) = divides_sums (divisor_at job weights j (suc x)) (sums_at job.law weights rows j (suc x))

  -- "An entry is exact at total 0, and later when neither sum's division left a remainder and every entry used .." is as it must be
  unfoldable pub exact_at : Rows → Marks → ℕ → ℕ → Bool
  exact_at rows marks j zero = true
  exact_at rows marks j (suc x) = divides_at rows j (suc x) && used_at job.law weights (lows rows) (highs rows) marks j (suc x)

  -- the marks of the curve in row 0, and of its further rows
  unfoldable pub curve_marks : Marks
  curve_marks = tabled false job.law.order (exact_at (curve_rows job weights))

  -- the rule as it stands in the wish
  abbrev pub MarkRule : Type 0
  MarkRule = (j x : ℕ) → j < job.law.order → curve_marks j x ≡ exact_at (curve_rows job weights) curve_marks j x
