-- The law of the number of claims (the paper's "law"), and its count coefficients.
use Rattle.std.specs.Prelude.{◌≡◌, List, [], ◌∷◌, ℕ, zero, suc, ◌-◌, ◌≤◌, min, ℤ, pos, get_or}
use Rattle.algebra.specs.Fraction.{Fraction, over, whole, ◌⊕◌, ◌⊗◌, over_suc, one_to}

-- order k, divisor D, and terms A_i and B_i for i from 1 to k
pub record Frequency : Type 0 where
  pub order : ℕ
  pub divisor : ℕ
  pub divisor_pos : 1 ≤ divisor
  pub term_a : ℕ → ℤ
  pub term_b : ℕ → ℤ

-- "The fractions of the law are a_i = A_i/D and b_i = B_i/D."
unfoldable pub a : Frequency → ℕ → Fraction
a law i = over (law.term_a i) law.divisor law.divisor_pos

unfoldable pub b : Frequency → ℕ → Fraction
b law i = over (law.term_b i) law.divisor law.divisor_pos

-- P_(n+1), P_n, .., P_0 from the list P_n, .., P_0, in which P_(n+1-i) has place i - 1
unfoldable pub with_next : Frequency → ℕ → List Fraction → List Fraction
with_next law n earlier =
    one_to (min law.order (suc n)) (λ i. (a law i ⊕ over_suc (b law i) n) ⊗ get_or earlier (i - 1) (whole (pos 0)))
    ∷ earlier

-- P_n, .., P_0
unfoldable pub count_coefficients : Frequency → ℕ → List Fraction
count_coefficients law zero = whole (pos 1) ∷ []
count_coefficients law (suc n) = with_next law n (count_coefficients law n)

-- P_n (the paper's "count coefficient"); where the law is a distribution, the chance of n claims divided by the chance of none
unfoldable pub count_coefficient : Frequency → ℕ → Fraction
count_coefficient law n = get_or (count_coefficients law n) 0 (whole (pos 0))

-- "P_0 = 1, and for n ≥ 1, P_n is the sum over i from 1 to the smaller of k and n of (a_i + b_i/n) times P_(n-i)."
abbrev pub CountEquations : Type 0
CountEquations = (law : Frequency) → (count_coefficient law 0 ≡ whole (pos 1)) × ((n : ℕ) → count_coefficient law (suc n)
    ≡ one_to (min law.order (suc n)) (λ i. (a law i ⊕ over_suc (b law i) n) ⊗ count_coefficient law (suc n - i)))
