-- Every number of the two calls fits 64 bits with a sign: products of numbers up to U, and sums of up to 14 of them.
use mathlib.Core.Path.{◌≡◌}
use Prim.Native.Nat.{◌≤◌}
use native.Mathlib.Omega.{arith}
use lib.IntN.{ℤ, pos, negsuc, nat_abs, ◌+ℤ◌, ◌-ℤ◌, ◌*ℤ◌}
use lib.Signed.{◌≤ℤ◌}
use mir.Syntax.{w64}
use mir.Val.{SFits, to_z}
use mir.Facts.{to_z_pos}
use Rattle.algebra.proofs.Integer.{≤ℤ-trans, of_pos}
use Rattle.algebra.proofs.Size.{size_add, size_sub, size_mul_le, size_fits}
use Rattle.model.specs.Limits.{unit}
use Rattle.outward.specs.declared.Interval.{Interval}
use Rattle.start.specs.declared.scale.Factor.{Factor}
use Rattle.start.specs.Step.{InUnit}
use Rattle.start.specs.Room.{Proper, SumRoom}

-- numbers from 0 to U
size_of : (z : ℤ) → pos 0 ≤ℤ z → z ≤ℤ pos unit → nat_abs z ≤ unit
size_of (pos n) h k = of_pos k
size_of (negsuc n) h k = absurd h.le

pub record InUnitSizes (ends : Interval) : Type 0 where
  pub low_size : nat_abs ends.low ≤ unit
  pub high_size : nat_abs ends.high ≤ unit

pub in_unit_sizes : (ends : Interval) → InUnit ends → InUnitSizes ends
in_unit_sizes ends u = record {
  low_size = size_of ends.low u.nonneg (≤ℤ-trans u.in_order u.at_most);
  high_size = size_of ends.high (≤ℤ-trans u.nonneg u.in_order) u.at_most;
}

-- ---- ends
pub record Ends (ends : Interval) : Type 0 where
  pub low_fits : SFits w64 ends.low
  pub high_fits : SFits w64 ends.high

pub ends_of : (ends : Interval) → InUnit ends → Ends ends
ends_of ends u =
    let s = in_unit_sizes ends u in record {
      low_fits = size_fits w64 _ (omega arith);
      high_fits = size_fits w64 _ (omega arith);
    }

-- ---- a step's products
pub record Products (factor : Factor) (ends : Interval) : Type 0 where
  pub factor_low : to_z w64 factor.low ≡ pos factor.low
  pub factor_high : to_z w64 factor.high ≡ pos factor.high
  pub low_product : SFits w64 (ends.low *ℤ pos factor.low)
  pub high_product : SFits w64 (ends.high *ℤ pos factor.high)

pub products : (factor : Factor) (ends : Interval) → Proper factor → InUnit ends → Products factor ends
products factor ends proper u =
    let s = in_unit_sizes ends u in record {
      factor_low = to_z_pos w64 (omega arith);
      factor_high = to_z_pos w64 (omega arith);
      low_product = size_fits w64 _ (omega (arith, size_mul_le ends.low (pos factor.low) unit unit s.low_size (omega arith)));
      high_product = size_fits w64 _ (omega (arith, size_mul_le ends.high (pos factor.high) unit unit s.high_size (omega arith)));
    }

-- ---- a sum's parts
pub record Parts (term sum : Interval) : Type 0 where
  pub term_low : SFits w64 term.low
  pub term_high : SFits w64 term.high
  pub sum_low : SFits w64 sum.low
  pub sum_high : SFits w64 sum.high
  pub low_low : SFits w64 (sum.low +ℤ term.low)
  pub high_high : SFits w64 (sum.high +ℤ term.high)
  pub low_high : SFits w64 (sum.low -ℤ term.high)
  pub high_low : SFits w64 (sum.high -ℤ term.low)

pub parts : (term sum : Interval) → InUnit term → SumRoom sum → Parts term sum
parts term sum u r =
    let s = in_unit_sizes term u in record {
      term_low = size_fits w64 _ (omega arith);
      term_high = size_fits w64 _ (omega arith);
      sum_low = size_fits w64 _ (omega arith);
      sum_high = size_fits w64 _ (omega arith);
      low_low = size_fits w64 _ (omega (arith, size_add sum.low term.low));
      high_high = size_fits w64 _ (omega (arith, size_add sum.high term.high));
      low_high = size_fits w64 _ (omega (arith, size_sub sum.low term.high));
      high_low = size_fits w64 _ (omega (arith, size_sub sum.high term.low));
    }
