-- Derived laws of commutative semirings, and the rulesets by which `simp` multiplies out and sorts sums of products.
use mathlib.Core.Path.{◌≡◌, refl, sym, ◌∙◌, ap}
use Prim.Native.Nat.{ℕ, zero, suc, ◌+◌, ◌*◌}
use native.Mathlib.Nat as NL
use Rattle.algebra.specs.Semiring.{Semiring, nat}

module _ (R : Semiring) where
  open R use {carrier as A, 𝟘, 𝟙, ◌⊹◌, ◌·◌}

  infixl 6 ◌⊹◌
  infixl 7 ◌·◌
  -- the fields once more, as lemmas, so that a ruleset can name them
  pub ⊹-comm : (a b : A) → a ⊹ b ≡ b ⊹ a
  ⊹-comm a b = R.add_comm a b

  pub ⊹-assoc : (a b c : A) → a ⊹ b ⊹ c ≡ a ⊹ (b ⊹ c)
  ⊹-assoc a b c = R.add_assoc a b c

  pub ⊹-zero : (a : A) → a ⊹ 𝟘 ≡ a
  ⊹-zero a = R.add_zero a

  pub ·-comm : (a b : A) → a · b ≡ b · a
  ·-comm a b = R.mul_comm a b

  pub ·-assoc : (a b c : A) → a · b · c ≡ a · (b · c)
  ·-assoc a b c = R.mul_assoc a b c

  pub ·-one : (a : A) → a · 𝟙 ≡ a
  ·-one a = R.mul_one a

  pub ·-zero : (a : A) → a · 𝟘 ≡ 𝟘
  ·-zero a = R.mul_zero a

  pub ·-add : (a b c : A) → a · (b ⊹ c) ≡ a · b ⊹ a · c
  ·-add a b c = R.mul_add a b c

  -- the same from the other side
  pub zero_add : (a : A) → 𝟘 ⊹ a ≡ a
  zero_add a = R.add_comm 𝟘 a ∙ R.add_zero a

  pub one_mul : (a : A) → 𝟙 · a ≡ a
  one_mul a = R.mul_comm 𝟙 a ∙ R.mul_one a

  pub zero_mul : (a : A) → 𝟘 · a ≡ 𝟘
  zero_mul a = R.mul_comm 𝟘 a ∙ R.mul_zero a

  pub add_mul : (a b c : A) → (a ⊹ b) · c ≡ a · c ⊹ b · c
  add_mul a b c = simp (·-comm, ·-add)

  pub add_left_comm : (a b c : A) → a ⊹ (b ⊹ c) ≡ b ⊹ (a ⊹ c)
  add_left_comm a b c = sym (R.add_assoc a b c) ∙ ap (λ (x : A). x ⊹ c) (R.add_comm a b) ∙ R.add_assoc b a c

  pub mul_left_comm : (a b c : A) → a · (b · c) ≡ b · (a · c)
  mul_left_comm a b c = sym (R.mul_assoc a b c) ∙ ap (λ (x : A). x · c) (R.mul_comm a b) ∙ R.mul_assoc b a c

  -- natural numbers are added and multiplied as they are in ℕ
  pub nat_zero : nat R 0 ≡ 𝟘
  unfolding nat
  nat_zero = refl

  pub nat_suc : (n : ℕ) → nat R (suc n) ≡ nat R n ⊹ 𝟙
  unfolding nat
  nat_suc n = refl

  pub nat_one : nat R 1 ≡ 𝟙
  unfolding nat
  nat_one = zero_add 𝟙

  pub nat_add : (m n : ℕ) → nat R (m + n) ≡ nat R m ⊹ nat R n
  unfolding nat
  nat_add m zero = rw NL.add-zero (sym (R.add_zero (nat R m)))
  nat_add m (suc n) = ap (nat R) (NL.add-suc m n) ∙ ap (λ (x : A). x ⊹ 𝟙) (nat_add m n) ∙ R.add_assoc (nat R m) (nat R n) 𝟙

  pub nat_mul : (m n : ℕ) → nat R (m * n) ≡ nat R m · nat R n
  unfolding nat
  nat_mul m zero = rw NL.mul-zero (sym (R.mul_zero (nat R m)))
  nat_mul m (suc n) = ap (nat R) (NL.mul-suc m n) ∙ nat_add (m * n) m ∙ ap (λ (x : A). x ⊹ nat R m) (nat_mul m n)
      ∙ sym (rw (R.mul_add, R.mul_one))

-- sums of products, multiplied out and sorted: `simp ring` closes an identity without negatives
pub ruleset ring = (·-add, add_mul, ·-comm, ·-assoc, mul_left_comm, ⊹-comm, ⊹-assoc, add_left_comm)

-- zeros and ones taken away
pub ruleset ring_units = (⊹-zero, zero_add, ·-one, one_mul, ·-zero, zero_mul)
