-- The rational numbers, by what they promise: an ordered ring, with ≡ as its equality, of the values of fractions. Values are added,
-- multiplied, equal and in order as the fractions are.
use Rattle.std.specs.Prelude.{◌≡◌, ◌↔◌, pos}
use Rattle.algebra.specs.Ring.{Number}
use Rattle.algebra.specs.Order.{OrderedRing}
use Rattle.algebra.specs.Fraction.{Fraction, whole, ◌⊕◌, ◌⊗◌, ◌≈◌, ◌≼◌}

pub record Rationals : Type 1 where
  pub order : OrderedRing
  -- the number that a fraction stands for
  pub value : Fraction → Number order.ring
  -- there are no other numbers
  pub every_value : (q : Number order.ring) → ∥ ((x : Fraction) × (q ≡ value x)) ∥₁
  pub value_zero : value (whole (pos 0)) ≡ order.ring.semiring.𝟘
  pub value_one : value (whole (pos 1)) ≡ order.ring.semiring.𝟙
  pub value_plus : (x y : Fraction) → value (x ⊕ y) ≡ order.ring.semiring.◌⊹◌ (value x) (value y)
  pub value_times : (x y : Fraction) → value (x ⊗ y) ≡ order.ring.semiring.◌·◌ (value x) (value y)
  pub value_eq : (x y : Fraction) → (x ≈ y) ↔ (value x ≡ value y)
  pub value_le : (x y : Fraction) → (x ≼ y) ↔ order.◌⊑◌ (value x) (value y)
