-- Partial sums of the exponential series as rational numbers. Term j + 1 times s (j + 1) is term j times the upper number; the terms for
-- -q/s are those for q/s with alternating signs, so a partial sum is an alternating sum.
use mathlib.Core.Path.{◌≡◌, refl, sym, ◌∙◌, ap, ap₂}
use Prim.Native.Nat.{ℕ, zero, suc, ◌*◌, ◌≤◌}
use native.Mathlib.Nat as NL
use lib.IntN.{ℤ, pos, neg_ℤ}
use Rattle.algebra.specs.Semiring.{Semiring, nat}
use Rattle.algebra.specs.Ring.{int}
use Rattle.algebra.specs.Alternating.{signed_at, alternating}
use Rattle.algebra.specs.Fraction.{Fraction, over, whole, ◌⊗◌, power}
use Rattle.algebra.proofs.Semiring.{ring, mul_left_comm, nat_mul, nat_one}
use Rattle.algebra.proofs.Ring.{int_pos, int_neg, neg_mul}
use Rattle.algebra.proofs.Sum.{sum_cong, sum_scale}
use Rattle.algebra.proofs.Order.{cancel_eq}
use Rattle.algebra.proofs.Alternating.{signed_suc, signed_mul}
use Rattle.algebra.proofs.Value.{order, ℚ, value, value_times, value_nat, value_over, value_zero_to, value_product_zero, value_product_suc}
use Rattle.model.specs.Limits.{unit}
use Rattle.start.specs.Exponential.{factorial, factorial_pos, exponential_term, exponential}
open ℚ use {carrier as A, 𝟙, ◌·◌}
open order.ring use {neg}

infixl 7 ◌·◌
-- ---- one over a factorial
inverse_of : ℕ → A
inverse_of j = value (over (pos 1) (factorial j) (factorial_pos j))

inverse_is : (j : ℕ) → nat ℚ (factorial j) · inverse_of j ≡ 𝟙
unfolding inverse_of
inverse_is j = value_over (pos 1) (factorial j) (factorial_pos j) ∙ int_pos order.ring 1 ∙ nat_one ℚ

inverse_zero : inverse_of 0 ≡ 𝟙
unfolding factorial
inverse_zero = sym (ap (λ (v : A). v · inverse_of 0) (nat_one ℚ) ∙ ℚ.mul_comm 𝟙 (inverse_of 0) ∙ ℚ.mul_one (inverse_of 0)) ∙ inverse_is 0

factorial_suc : (j : ℕ) → factorial j * suc j ≡ factorial (suc j)
unfolding factorial
factorial_suc j = refl

inverse_suc : (j : ℕ) → nat ℚ (suc j) · inverse_of (suc j) ≡ inverse_of j
inverse_suc j = cancel_eq order (factorial j) (factorial_pos j)
    (sym (ℚ.mul_assoc (nat ℚ (factorial j)) (nat ℚ (suc j)) (inverse_of (suc j)))
    ∙ ap (λ (v : A). v · inverse_of (suc j)) (sym (nat_mul ℚ (factorial j) (suc j)) ∙ ap (nat ℚ) (factorial_suc j))
    ∙ inverse_is (suc j) ∙ sym (inverse_is j))

-- ---- the terms
moved : (S : Semiring) (a b p v f : S.carrier) → S.◌·◌ (S.◌·◌ a b) (S.◌·◌ (S.◌·◌ p v) f) ≡ S.◌·◌ (S.◌·◌ a v) (S.◌·◌ p (S.◌·◌ b f))
moved S a b p v f = simp ring

module _ (z : ℤ) (s : ℕ) (h : 1 ≤ s) where
  abbrev x : Fraction
  x = over z s h

  term_value : (j : ℕ) → value (exponential_term (over z s h) j) ≡ value (power (over z s h) j) · inverse_of j
  unfolding exponential_term inverse_of
  term_value j = value_times (power x j) (over (pos 1) (factorial j) (factorial_pos j))

  term_zero : value (exponential_term (over z s h) 0) ≡ 𝟙
  term_zero = term_value 0 ∙ ap₂ ◌·◌ (value_product_zero (λ _. x)) inverse_zero ∙ ℚ.mul_one 𝟙

  term_suc : (j : ℕ) → nat ℚ (s * suc j) · value (exponential_term (over z s h) (suc j))
      ≡ int order.ring z · value (exponential_term (over z s h) j)
  term_suc j =
      ap₂ ◌·◌ (nat_mul ℚ s (suc j)) (term_value (suc j) ∙ ap (λ (v : A). v · inverse_of (suc j)) (value_product_suc j (λ _. x)))
      ∙ moved ℚ (nat ℚ s) (nat ℚ (suc j)) (value (power x j)) (value x) (inverse_of (suc j))
      ∙ ap₂ ◌·◌ (value_over z s h) (ap (λ (v : A). value (power x j) · v) (inverse_suc j) ∙ sym (term_value j))

-- ---- the terms for -q/s
module _ (q s : ℕ) (h : 1 ≤ s) where
  abbrev plus : ℕ → A
  plus j = value (exponential_term (over (pos q) s h) j)

  abbrev minus : ℕ → A
  minus j = value (exponential_term (over (neg_ℤ (pos q)) s h) j)

  alternates : (j : ℕ) → minus j ≡ signed_at order.ring j (plus j)
  alternates zero = term_zero (neg_ℤ (pos q)) s h ∙ sym (term_zero (pos q) s h)
  alternates (suc j) = cancel_eq order (s * suc j) (NL.mul-pos h (NL.zero-lt-suc j))
      (term_suc (neg_ℤ (pos q)) s h j
      ∙ ap₂ ◌·◌ (int_neg order.ring (pos q)) (alternates j)
      ∙ neg_mul order.ring (int order.ring (pos q)) (signed_at order.ring j (plus j))
      ∙ ap neg (signed_mul order.ring j (int order.ring (pos q)) (plus j)
      ∙ ap (signed_at order.ring j) (sym (term_suc (pos q) s h j)))
      ∙ sym (signed_suc order.ring j (nat ℚ (s * suc j) · plus (suc j)))
      ∙ sym (signed_mul order.ring (suc j) (nat ℚ (s * suc j)) (plus (suc j))))

  -- U times the term for q/s
  pub scaled_term : ℕ → A
  scaled_term j = nat ℚ unit · plus j

  pub scaled_zero : scaled_term 0 ≡ nat ℚ unit
  unfolding scaled_term
  scaled_zero = ap (λ (v : A). nat ℚ unit · v) (term_zero (pos q) s h) ∙ ℚ.mul_one (nat ℚ unit)

  pub scaled_suc : (j : ℕ) → nat ℚ (s * suc j) · scaled_term (suc j) ≡ nat ℚ q · scaled_term j
  unfolding scaled_term
  scaled_suc j = mul_left_comm ℚ (nat ℚ (s * suc j)) (nat ℚ unit) (plus (suc j))
      ∙ ap (λ (v : A). nat ℚ unit · v) (term_suc (pos q) s h j ∙ ap (λ (v : A). v · plus j) (int_pos order.ring q))
      ∙ mul_left_comm ℚ (nat ℚ unit) (nat ℚ q) (plus j)

  -- U times a partial sum for -q/s
  pub exponential_value : (n : ℕ) → value (whole (pos unit) ⊗ exponential (over (neg_ℤ (pos q)) s h) n)
      ≡ alternating order.ring (suc n) scaled_term
  unfolding exponential scaled_term alternating
  exponential_value n =
      value_times (whole (pos unit)) (exponential (over (neg_ℤ (pos q)) s h) n)
      ∙ ap₂ ◌·◌ (value_nat unit) (value_zero_to n (exponential_term (over (neg_ℤ (pos q)) s h)))
      ∙ sum_scale ℚ (suc n) (nat ℚ unit) minus
      ∙ sum_cong ℚ (suc n) (λ j l. ap (λ (v : A). nat ℚ unit · v) (alternates j) ∙ signed_mul order.ring j (nat ℚ unit) (plus j))
