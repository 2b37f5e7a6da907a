-- The partial sums over the number of claims as rational numbers: their convolutions are those over a semiring, so Theorem 9 over one gives
-- (20) and (21) of document 002, cut after n claims.
use mathlib.Core.Path.{◌≡◌, sym, ◌∙◌, ap}
use Prim.Native.Nat.{ℕ, zero, suc, ◌-◌, min}
use native.Mathlib.Omega.{arith}
use Rattle.algebra.specs.Semiring.{nat}
use Rattle.algebra.specs.Sum.{sum}
use Rattle.algebra.specs.Fraction.{Fraction, ◌⊗◌, power as power_of}
use Rattle.algebra.proofs.Semiring.{zero_add}
use Rattle.algebra.proofs.Sum.{sum_suc, sum_zero, sum_cong}
use Rattle.algebra.proofs.Value.{ℚ, value, eq_of_value, value_times, value_plus, value_nat, value_zero_to}
use Rattle.algebra.proofs.Value.{value_product_zero, value_product_suc}
use Rattle.exact.specs.Frequency.{Frequency, a, b, count_coefficient}
use Rattle.exact.specs.Severity.{Severity}
use Rattle.exact.specs.Thinned.{zero_share}
use Rattle.exact.specs.Zeros.{density_with_zero, convolution_with_zero, of_claims, up_to_claims, ZeroTotalChance, CutRecursion}
use Rattle.exact.proofs.Convolution.{convolve, power}
use Rattle.exact.proofs.Frequency.{count_class}
use Rattle.exact.proofs.Amount.{value_convolution}
use Rattle.exact.proofs.Theorem9.{convolve_all, convolve_all_sum, power_all, term, partial, factor, theorem, term_next, partial_next}
open ℚ use {carrier as A, ◌⊹◌, ◌·◌}

infixl 6 ◌⊹◌
infixl 7 ◌·◌
value_convolution_with_zero : (f : ℕ → Fraction) (n x : ℕ) → value (convolution_with_zero f n x) ≡ power_all ℚ (λ y. value (f y)) n x
unfolding convolution_with_zero power_all
value_convolution_with_zero f zero x = value_convolution f zero x
value_convolution_with_zero f (suc n) x =
    value_zero_to x (λ y. f y ⊗ convolution_with_zero f n (x - y))
    ∙ sum_cong ℚ (suc x) (λ y l. value_times (f y) (convolution_with_zero f n (x - y))
    ∙ ap (λ (v : A). value (f y) · v) (value_convolution_with_zero f n (x - y)))
    ∙ convolve_all_sum ℚ (λ y. value (f y)) (power_all ℚ (λ y. value (f y)) n) x

-- f(y), and the multiples p P_n
abbrev pub f : ℕ → Severity → ℕ → A
f w₀ table y = value (density_with_zero w₀ table y)

abbrev pub P : Frequency → Fraction → ℕ → A
P law p n = value p · value (count_coefficient law n)

module _ (law : Frequency) (w₀ : ℕ) (table : Severity) (p : Fraction) where
  -- the chance of n claims with the total x, of at most n, and Theorem 9's right side
  abbrev pub claims : ℕ → ℕ → A
  claims = term ℚ (f w₀ table) (P law p)

  abbrev pub up_to : ℕ → ℕ → A
  up_to = partial ℚ (f w₀ table) (P law p)

  abbrev pub rule : (ℕ → A) → ℕ → A
  rule = theorem ℚ (f w₀ table) (value (a law 1)) (value (b law 1))

  pub value_of_claims : (n x : ℕ) → value (of_claims law w₀ table p n x) ≡ claims n x
  unfolding of_claims term
  value_of_claims n x = simp (value_times, value_convolution_with_zero)
      (sym (ℚ.mul_assoc (value p) (value (count_coefficient law n)) (power_all ℚ (f w₀ table) n x)))

  pub value_up_to_claims : (n x : ℕ) → value (up_to_claims law w₀ table p n x) ≡ up_to n x
  unfolding up_to_claims partial
  value_up_to_claims n x = value_zero_to n (λ m. of_claims law w₀ table p m x) ∙ sum_cong ℚ (suc n) (λ m l. value_of_claims m x)

-- ---- a law of order 1
module _ (law : Frequency) (one : law.order ≡ 1) (p : Fraction) where
  pub class_one : (n : ℕ) → nat ℚ (suc n) · P law p (suc n) ≡ (nat ℚ (suc n) · value (a law 1) ⊹ value (b law 1)) · P law p n
  class_one n =
      count_class law (value p) n
      ∙ ap (λ (k : ℕ). sum ℚ k (λ i. (nat ℚ (suc n) · value (a law (suc i)) ⊹ value (b law (suc i))) · P law p (suc n - suc i))) least
      ∙ sum_suc ℚ 0 _ ∙ ap (λ (v : A). v ⊹ (nat ℚ (suc n) · value (a law 1) ⊹ value (b law 1)) · P law p (suc n - 1)) (sum_zero ℚ _)
      ∙ zero_add ℚ _ ∙ ap (λ (m : ℕ). (nat ℚ (suc n) · value (a law 1) ⊹ value (b law 1)) · P law p m) back
    where
      least : min law.order (suc n) ≡ 1
      least = omega (arith, one)

      back : suc n - 1 ≡ n
      back = omega arith

  module _ (w₀ : ℕ) (table : Severity) where
    pub claims_value : (n x : ℕ) → nat ℚ x · claims law w₀ table p (suc n) x ≡ rule law w₀ table p (claims law w₀ table p n) x
    claims_value = term_next ℚ (f w₀ table) (value (a law 1)) (value (b law 1)) (P law p) class_one

    pub cut_value : (n x : ℕ) → nat ℚ x · up_to law w₀ table p (suc n) x ≡ rule law w₀ table p (up_to law w₀ table p n) x
    cut_value = partial_next ℚ (f w₀ table) (value (a law 1)) (value (b law 1)) (P law p) class_one

-- ---- the statements
power_zero_total : (w₀ : ℕ) (table : Severity) (n : ℕ) → power_all ℚ (f w₀ table) n 0 ≡ value (power_of (zero_share w₀ table) n)
unfolding power_all power convolve_all convolve density_with_zero zero_share
power_zero_total w₀ table zero = sym (value_product_zero (λ _. zero_share w₀ table))
power_zero_total w₀ table (suc n) = ap (λ (v : A). f w₀ table 0 · power_all ℚ (f w₀ table) n 0 ⊹ v) (sum_zero ℚ _) ∙ ℚ.add_zero _
    ∙ ap (λ (v : A). f w₀ table 0 · v) (power_zero_total w₀ table n) ∙ ℚ.mul_comm _ _
    ∙ sym (value_product_suc n (λ _. zero_share w₀ table))

pub zero_total_chance : ZeroTotalChance
unfolding up_to_claims of_claims
zero_total_chance law w₀ table p n = eq_of_value (simp (value_zero_to, value_times, value_convolution_with_zero, power_zero_total))

pub cut_recursion : CutRecursion
unfolding theorem factor
cut_recursion law one w₀ table p n x = eq_of_value
    (simp (value_zero_to, value_times, value_plus, value_up_to_claims, value_nat) (cut_value law one p w₀ table n x))
