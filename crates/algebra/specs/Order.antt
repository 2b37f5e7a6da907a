-- Ordered rings: commutative rings with a total order that adding a number keeps, and in which a product of two numbers that are zero or
-- more is zero or more.
use Rattle.std.specs.Prelude.{◌≡◌}
use Rattle.algebra.specs.Ring.{Ring, Number}

pub record OrderedRing : Type 1 where
  infix 4 ◌⊑◌
  pub ring : Ring
  pub ◌⊑◌ : Number ring → Number ring → Type 0
  pub le_refl : (a : Number ring) → a ⊑ a
  pub le_trans : {a b c : Number ring} → a ⊑ b → b ⊑ c → a ⊑ c
  pub le_antisymm : {a b : Number ring} → a ⊑ b → b ⊑ a → a ≡ b
  pub le_dec : (a b : Number ring) → Dec (a ⊑ b)
  pub le_total : {a b : Number ring} → ¬ (a ⊑ b) → b ⊑ a
  pub add_le : {a b : Number ring} (c : Number ring) → a ⊑ b → ring.semiring.◌⊹◌ a c ⊑ ring.semiring.◌⊹◌ b c
  pub mul_nonneg : {a b : Number ring} → ring.semiring.𝟘 ⊑ a → ring.semiring.𝟘 ⊑ b
      → ring.semiring.𝟘 ⊑ ring.semiring.◌·◌ a b
