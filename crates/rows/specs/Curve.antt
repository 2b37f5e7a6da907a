-- "The curve, by the outward rule".
use Rattle.std.specs.Prelude.{◌≡◌, List, ℕ, zero, suc, ◌-◌, ◌<◌, min, ℤ, pos, ◌+ℤ◌, ◌-ℤ◌, ◌*ℤ◌, length, get_or}
use Rattle.algebra.specs.Tabled.{Grid, tabled}
use Rattle.model.specs.Weights.{all_weight, divisor_zero}
use Rattle.model.specs.declared.Law.{Law}
use Rattle.model.specs.declared.Start.{Start}
use Rattle.model.specs.declared.Job.{Job}
use Rattle.enclosure.specs.declared.Entry.{Entry}
use Rattle.enclosure.specs.Entry.{none, sum_of, scaled, rounded}

-- rows of entries: row j at total z
abbrev pub Rows : Type 0
Rows = Grid Entry

-- "y from 1 to the smaller of x and m"
abbrev pub severities : List ℕ → ℕ → ℕ
severities weights x = min x (length weights)

-- "Row j ≥ 1 sums w(y) times the entry of row j-1 at x-y.", of row j + 1
unfoldable pub sums_next : List ℕ → Rows → ℕ → ℕ → Entry
sums_next weights rows j x = sum_of (severities weights x) (λ y. scaled (pos (get_or weights y 0)) (rows j (x - suc y)))

module _ (law : Law) (weights : List ℕ) where
  -- "(A_i times x + B_i times y) times w(y)", of term i + 1 and severity y + 1 at total x
  unfoldable pub factor : ℕ → ℕ → ℕ → ℤ
  factor x i y = (get_or law.a i (pos 0) *ℤ pos x +ℤ get_or law.b i (pos 0) *ℤ pos (suc y)) *ℤ pos (get_or weights y 0)

  -- "Row 0 sums, over i from 1 to k and over y, the product .. times the entry of row i-1 at x-y."
  unfoldable pub sums_zero : Rows → ℕ → Entry
  sums_zero rows x = sum_of law.order (λ i. sum_of (severities weights x) (λ y. scaled (factor x i y) (rows i (x - suc y))))

  -- the sums of row j
  abbrev pub sums_at : Rows → ℕ → ℕ → Entry
  sums_at rows zero x = sums_zero rows x
  sums_at rows (suc j) x = sums_next weights rows j x

-- "At total 0: row 0 has low s, high t, bound t-s. Other rows have 0, 0, 0."
abbrev pub first_entry : Start → ℕ → Entry
first_entry start zero = record {
  low = pos start.low;
  high = pos start.high;
  bound = pos start.high -ℤ pos start.low;
}
first_entry start (suc j) = none

module _ (job : Job) (weights : List ℕ) where
  -- the divisor of row j at total x: that of row 0 is "(D times W - A times w(0)) times x"; of the others "The divisor is W."
  abbrev pub divisor_at : ℕ → ℕ → ℕ
  divisor_at zero x =
      divisor_zero job.law.divisor (get_or job.law.a 0 (pos 0)) job.zero (all_weight job.zero weights) x
  divisor_at (suc j) x = all_weight job.zero weights

  -- the entry of row j at total x, from the entries at earlier totals
  unfoldable pub entry_at : Rows → ℕ → ℕ → Entry
  entry_at rows j zero = first_entry job.start j
  entry_at rows j (suc x) = rounded (divisor_at j (suc x)) (sums_at job.law weights rows j (suc x))

  -- the curve in row 0, and its further rows: row j at total x, for the rows 0 to k - 1
  unfoldable pub curve_rows : Rows
  curve_rows = tabled none job.law.order entry_at

  -- the rule as it stands in the paper: an entry is what the rule makes of the entries at earlier totals
  abbrev pub CurveRule : Type 0
  CurveRule = (j x : ℕ) → j < job.law.order → curve_rows j x ≡ entry_at curve_rows j x
