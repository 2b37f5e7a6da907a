-- The one step of both calls: an interval of whole numbers times a fraction, rounded outward.
use Rattle.std.specs.Prelude.{ℕ, zero, suc, pos, ◌*ℤ◌, ◌≤ℤ◌}
use Rattle.model.specs.Limits.{unit}
use Rattle.outward.specs.declared.Interval.{Interval}
use Rattle.outward.specs.Division.{floor_div, ceil_div}
use Rattle.start.specs.declared.scale.Factor.{Factor}

-- "U and U"
abbrev pub certain : Interval
certain = record { low = pos unit; high = pos unit }

-- the fraction upper over lower
abbrev pub exactly : (upper lower : ℕ) → Factor
exactly upper lower = record { low = upper; high = upper; divisor = lower }

-- "rounded down and up", "outward": the low takes the factor's low, the high its high
unfoldable pub times : Factor → Interval → Interval
times factor ends = record {
  low = floor_div (ends.low *ℤ pos factor.low) factor.divisor;
  high = ceil_div (ends.high *ℤ pos factor.high) factor.divisor;
}

-- "multiply n times"
unfoldable pub repeated : Factor → ℕ → Interval → Interval
repeated factor zero ends = ends
repeated factor (suc n) ends = times factor (repeated factor n ends)

-- ---- numbers from 0 to U, which every step keeps
pub record InUnit (ends : Interval) : Type 0 where
  pub nonneg : pos 0 ≤ℤ ends.low
  pub in_order : ends.low ≤ℤ ends.high
  pub at_most : ends.high ≤ℤ pos unit
