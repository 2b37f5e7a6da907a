-- Rational numbers that an interval holds. A step's interval holds the number's product with any fraction that the factor's two ends
-- enclose; only its product with the divisor is spoken of, so that nothing is divided.
use mathlib.Core.Path.{◌≡◌, refl, sym, ◌∙◌, ap}
use Prim.Native.Nat.{ℕ, ◌≤◌}
use lib.IntN.{ℤ, pos, ◌*ℤ◌, *ℤ_comm}
use Rattle.algebra.specs.Semiring.{nat}
use Rattle.algebra.specs.Ring.{int}
use Rattle.algebra.proofs.Ring.{int_pos}
use Rattle.algebra.proofs.Order.{rewritten, le_of_eq, mul_mono, nat_nonneg}
use Rattle.algebra.proofs.Value.{order, ℚ, Within}
use Rattle.model.specs.Limits.{unit}
use Rattle.outward.specs.declared.Interval.{Interval}
use Rattle.outward.proofs.Enclosed.{times_natural, floor_le, le_ceil}
use Rattle.start.specs.declared.scale.Factor.{Factor}
use Rattle.start.specs.Step.{certain, times}
open order use {◌⊑◌}
open ℚ use {carrier as A, ◌·◌}

infix 4 ◌⊑◌
infixl 7 ◌·◌
abbrev pub Held : Interval → A → Type 0
Held ends x = Within ends.low ends.high x

-- U and U hold U
pub certain_held : Held certain (nat ℚ unit)
certain_held = record {
  below = le_of_eq order (int_pos order.ring unit);
  above = le_of_eq order (sym (int_pos order.ring unit));
}

module _ (factor : Factor) (d_pos : 1 ≤ factor.divisor) (ends : Interval) (x y : A) (h : Held ends x) where
  end_product : (z : ℤ) (n : ℕ) → nat ℚ n · int order.ring z ≡ int order.ring (z *ℤ pos n)
  end_product z n = sym (ap (int order.ring) (*ℤ_comm z (pos n)) ∙ times_natural order n z)

  pub times_held : nat ℚ factor.low · x ⊑ nat ℚ factor.divisor · y → nat ℚ factor.divisor · y ⊑ nat ℚ factor.high · x
      → Held (times factor ends) y
  unfolding times
  times_held least most = record {
    below = floor_le order (ends.low *ℤ pos factor.low) factor.divisor d_pos (order.le_trans
        (rewritten order (mul_mono order _ (nat_nonneg order factor.low) h.below) (end_product ends.low factor.low) refl)
        least);
    above = le_ceil order (ends.high *ℤ pos factor.high) factor.divisor d_pos (order.le_trans most
        (rewritten order (mul_mono order _ (nat_nonneg order factor.high) h.above) refl (end_product ends.high factor.high)));
  }

  -- a factor that is one number
  pub times_held_exactly : factor.low ≡ factor.high → nat ℚ factor.divisor · y ≡ nat ℚ factor.high · x
      → Held (times factor ends) y
  times_held_exactly e k = times_held (le_of_eq order (ap (λ (n : ℕ). nat ℚ n · x) e ∙ sym k)) (le_of_eq order k)
