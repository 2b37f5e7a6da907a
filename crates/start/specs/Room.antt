-- For inner functions alone: what keeps products and sums from overflowing, and the sum of the terms, one after the other.
use Rattle.std.specs.Prelude.{cond, ℕ, ◌*◌, ◌≤◌, nat_abs, ◌+ℤ◌, ◌-ℤ◌}
use Rattle.algebra.specs.Alternating.{is_even}
use Rattle.algebra.specs.Sum.{sumℤ}
use Rattle.model.specs.Limits.{unit}
use Rattle.outward.specs.declared.Interval.{Interval}
use Rattle.start.specs.declared.scale.Factor.{Factor}
use Rattle.start.specs.Call.{low_part, high_part}

-- a fraction of at most 1
pub record Proper (factor : Factor) : Type 0 where
  pub divisor_pos : 1 ≤ factor.divisor
  pub divisor_most : factor.divisor ≤ unit
  pub in_order : factor.low ≤ factor.high
  pub at_most_one : factor.high ≤ factor.divisor

-- term j added, where j is even, or taken off, where j is odd
unfoldable pub plus_part : ℕ → Interval → Interval → Interval
plus_part j term sum = cond (is_even j)
    (record { low = sum.low +ℤ term.low; high = sum.high +ℤ term.high })
    (record { low = sum.low -ℤ term.high; high = sum.high -ℤ term.low })

-- the first n terms
unfoldable pub sum_of_terms : (q s n : ℕ) → Interval
sum_of_terms q s n = record { low = sumℤ n (low_part q s); high = sumℤ n (high_part q s) }

pub record SumRoom (sum : Interval) : Type 0 where
  pub low_size : nat_abs sum.low ≤ 13 * unit
  pub high_size : nat_abs sum.high ≤ 13 * unit
