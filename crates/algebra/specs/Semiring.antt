-- Commutative semirings: numbers that are added and multiplied. ℕ, ℤ and ℚ are instances (proofs/).
use Rattle.std.specs.Prelude.{◌≡◌, ℕ, zero, suc}

pub record Semiring : Type 1 where
  infixl 6 ◌⊹◌
  infixl 7 ◌·◌
  pub carrier : Type 0
  pub 𝟘 : carrier
  pub 𝟙 : carrier
  pub ◌⊹◌ : carrier → carrier → carrier
  pub ◌·◌ : carrier → carrier → carrier
  pub add_comm : (a b : carrier) → a ⊹ b ≡ b ⊹ a
  pub add_assoc : (a b c : carrier) → a ⊹ b ⊹ c ≡ a ⊹ (b ⊹ c)
  pub add_zero : (a : carrier) → a ⊹ 𝟘 ≡ a
  pub mul_comm : (a b : carrier) → a · b ≡ b · a
  pub mul_assoc : (a b c : carrier) → a · b · c ≡ a · (b · c)
  pub mul_one : (a : carrier) → a · 𝟙 ≡ a
  pub mul_zero : (a : carrier) → a · 𝟘 ≡ 𝟘
  pub mul_add : (a b c : carrier) → a · (b ⊹ c) ≡ a · b ⊹ a · c

-- the natural number n in a semiring: 1 + .. + 1
unfoldable pub nat : (R : Semiring) → ℕ → R.carrier
nat R zero = R.𝟘
nat R (suc n) = R.◌⊹◌ (nat R n) R.𝟙
