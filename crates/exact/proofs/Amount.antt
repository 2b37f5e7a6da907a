-- The exact amounts and rows as rational numbers: rows over the multiples p P_n of the count coefficients.
use mathlib.Core.Path.{◌≡◌, sym, ◌∙◌, ap}
use Prim.Native.Nat.{ℕ, zero, suc, ◌-◌}
use native.Mathlib.Nat as NL
use Rattle.algebra.proofs.Sum.{sum_cong, sum_scale}
use Rattle.algebra.specs.Fraction.{Fraction, ◌⊗◌, zero_to}
use Rattle.algebra.proofs.Value.{ℚ, value, eq_of_value, value_times, value_zero, value_one, value_one_to, value_zero_to}
use Rattle.exact.specs.Frequency.{Frequency, count_coefficient}
use Rattle.exact.specs.Severity.{Severity, density, convolution, TermsVanish}
use Rattle.exact.specs.Amount.{exact_amount, exact_row}
use Rattle.exact.proofs.Convolution.{convolve, power, power_vanishes}
use Rattle.exact.proofs.Sundt.{row, row_next}
open ℚ use {carrier as A, ◌·◌}

infixl 7 ◌·◌
pub value_convolution : (f : ℕ → Fraction) (n x : ℕ) → value (convolution f n x) ≡ power ℚ (λ y. value (f y)) n x
unfolding convolution power convolve
value_convolution f zero zero = value_one
value_convolution f zero (suc x) = value_zero
value_convolution f (suc n) x =
    value_one_to x (λ y. f y ⊗ convolution f n (x - y))
    ∙ sum_cong ℚ x (λ y l. value_times (f (suc y)) (convolution f n (x - suc y))
    ∙ ap (λ (v : A). value (f (suc y)) · v) (value_convolution f n (x - suc y)))

pub terms_vanish : TermsVanish
terms_vanish f n x h = eq_of_value (value_convolution f n x ∙ power_vanishes ℚ (λ y. value (f y)) n x h ∙ sym value_zero)

module _ (law : Frequency) (table : Severity) (p : Fraction) where
  -- row j at x over the rational numbers
  unfoldable pub value_row : ℕ → ℕ → A
  value_row = row ℚ (λ y. value (density table y)) (λ n. value p · value (count_coefficient law n))

  pub value_amount : (x : ℕ) → value (exact_amount law table p x) ≡ value_row 0 x
  unfolding exact_amount value_row row
  value_amount x =
      value_times p (zero_to x summand) ∙ ap (λ (v : A). value p · v) (value_zero_to x summand)
      ∙ sum_scale ℚ (suc x) (value p) (λ n. value (summand n))
      ∙ sum_cong ℚ (suc x) (λ n l. ap (λ (v : A). value p · v) (value_times (count_coefficient law n) (convolution (density table) n x))
      ∙ sym (ℚ.mul_assoc (value p) (value (count_coefficient law n)) (value (convolution (density table) n x)))
      ∙ ap (λ (v : A). value p · value (count_coefficient law n) · v) (value_convolution (density table) n x
      ∙ ap (λ (m : ℕ). power ℚ (λ y. value (density table y)) m x) (sym (NL.add-zero n))))
    where
      summand : ℕ → Fraction
      summand n = count_coefficient law n ⊗ convolution (density table) n x

  pub value_row_lem : (j x : ℕ) → value (exact_row law table p j x) ≡ value_row j x
  unfolding exact_row value_row convolve
  value_row_lem zero x = value_amount x
  value_row_lem (suc j) x =
      value_one_to x (λ y. density table y ⊗ exact_row law table p j (x - y))
      ∙ sum_cong ℚ x (λ y l. value_times (density table (suc y)) (exact_row law table p j (x - suc y))
      ∙ ap (λ (v : A). value (density table (suc y)) · v) (value_row_lem j (x - suc y)))
      ∙ sym (row_next ℚ (λ y. value (density table y)) (λ n. value p · value (count_coefficient law n)) j x)
