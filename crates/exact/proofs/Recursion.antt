-- Sundt's recursion for the exact amounts: each statement is an equation between rational numbers, which the recursion over a semiring
-- gives. The factors become whole by multiplying with the divisor and the total weight, and weights past the table's end drop out.
use mathlib.Core.Path.{◌≡◌, sym, ◌∙◌, ap, ap₂}
use Prim.Native.Nat.{ℕ, suc, ◌-◌, ◌≤◌, min, ◌*◌}
use native.Mathlib.Omega.{arith}
use lib.IntN.{ℤ}
use lib.ListN.{length, get_or-eq_default}
use Rattle.algebra.specs.Semiring.{nat}
use Rattle.algebra.specs.Ring.{int}
use Rattle.algebra.specs.Sum.{accumulate, sum}
use Rattle.algebra.proofs.Semiring.{ring, ring_units, nat_zero, nat_mul}
use Rattle.algebra.proofs.Ring.{int_pos, int_add, int_mul}
use Rattle.algebra.proofs.Sum.{sum_zero, sum_cong, sum_scale, sum_cut}
use Rattle.algebra.specs.Fraction.{Fraction, over, over_suc, zero_to}
use Rattle.algebra.proofs.Value.{order, ℚ, value, eq_of_value, value_plus, value_times, value_one_to}
use Rattle.algebra.proofs.Value.{value_int, value_nat, value_zero, value_one, value_over, value_over_nat, value_over_suc}
use Rattle.model.specs.Weights.{total_weight}
use Rattle.exact.specs.Frequency.{Frequency, a, b, count_coefficient}
use Rattle.exact.specs.Severity.{Severity, weight, density, convolution}
use Rattle.exact.specs.Amount.{exact_amount}
use Rattle.exact.specs.Recursion.{PublishedRecursion, RowRecursion, whole_factor, WholeRecursion, WholeConvolution, FirstEntries}
use Rattle.exact.proofs.Convolution.{convolve}
use Rattle.exact.proofs.Sundt.{row_next, sundt_rows, sundt_published}
use Rattle.exact.proofs.Frequency.{count_equations, count_class}
use Rattle.exact.proofs.Amount.{value_convolution, value_row, value_amount, value_row_lem}
open ℚ use {carrier as A, 𝟘, ◌⊹◌, ◌·◌}

infixl 6 ◌⊹◌
infixl 7 ◌·◌
-- the integer z as a rational number
abbrev pub integer : ℤ → A
integer = int order.ring

-- D W ((x a + y b) f e) is (A x + B y) w e, where D a = A, D b = B and W f = w
pub cleared : (D W x y a b f e A' B' w : A) → D · a ≡ A' → D · b ≡ B' → W · f ≡ w
    → D · W · ((x · a ⊹ y · b) · f · e) ≡ (A' · x ⊹ B' · y) · w · e
cleared D W x y a b f e A' B' w p q r =
    spread ∙ ap₂ (λ (u v : A). (u · x ⊹ v · y) · (W · f) · e) p q ∙ ap (λ (u : A). (A' · x ⊹ B' · y) · u · e) r
  where
    spread : D · W · ((x · a ⊹ y · b) · f · e) ≡ (D · a · x ⊹ D · b · y) · (W · f) · e
    spread = simp ring

turned : (D x W e : A) → D · x · W · e ≡ D · W · (x · e)
turned D x W e = simp ring

pub int_factor : (law : Frequency) (table : Severity) (x i y : ℕ) → integer (whole_factor law table x i y)
    ≡ (integer (law.term_a i) · nat ℚ x ⊹ integer (law.term_b i) · nat ℚ y) · nat ℚ (weight table y)
unfolding whole_factor
int_factor law table x i y = simp (int_mul, int_add, int_pos)

-- past the table's end there is no weight
pub weight_past : (table : Severity) (y : ℕ) → length table.weights ≤ y → weight table (suc y) ≡ 0
weight_past table y l = get_or-eq_default table.weights 0 l

module _ (law : Frequency) (table : Severity) (p : Fraction) where
  -- a_(i+1), b_(i+1), f(y+1), the multiples p P_n, and the entry of row j at x
  abbrev α : ℕ → A
  α i = value (a law (suc i))

  abbrev β : ℕ → A
  β i = value (b law (suc i))

  abbrev f : ℕ → A
  f y = value (density table (suc y))

  abbrev P : ℕ → A
  P n = value p · value (count_coefficient law n)

  abbrev E : ℕ → ℕ → A
  E = value_row law table p

  -- ---- fractions of the law and the table
  rows_value : (x : ℕ) → nat ℚ x · E 0 x
      ≡ sum ℚ law.order (λ i. sum ℚ x (λ y. (nat ℚ x · α i ⊹ nat ℚ (suc y) · β i) · f y · E i (x - suc y)))
  unfolding value_row
  rows_value x = sundt_rows ℚ (λ y. value (density table y)) law.order (λ i. value (a law i)) (λ i. value (b law i)) P
      (count_class law (value p)) x

  published_value : (x : ℕ) → nat ℚ x · E 0 x
      ≡ sum ℚ x (λ y. E 0 (x - suc y) · sum ℚ law.order (λ i.
      (nat ℚ x · α i ⊹ nat ℚ (suc y) · value (over_suc (b law (suc i)) i)) · value (convolution (density table) (suc i) (suc y))))
  unfolding value_row
  published_value x =
      sundt_published ℚ (λ y. value (density table y)) law.order (λ i. value (a law i)) (λ i. value (b law i)) P
      (count_class law (value p)) (λ i. value (over_suc (b law (suc i)) i)) (λ i. value_over_suc (b law (suc i)) i) x
      ∙ simp value_convolution

  -- ---- whole factors
  D : A
  D = nat ℚ law.divisor

  W : A
  W = nat ℚ (total_weight table.weights)

  over_divisor : (z : ℤ) → D · value (over z law.divisor law.divisor_pos) ≡ integer z
  unfolding D
  over_divisor z = value_over z law.divisor law.divisor_pos

  over_total : (y : ℕ) → W · value (density table y) ≡ nat ℚ (weight table y)
  unfolding W density
  over_total y = value_over_nat (weight table y) (total_weight table.weights) table.total_pos

  pub recursion_value : (x : ℕ) → nat ℚ (law.divisor * x * total_weight table.weights) · E 0 x
      ≡ sum ℚ law.order (λ i. sum ℚ (min x (length table.weights)) (λ y.
      integer (whole_factor law table x (suc i) (suc y)) · E i (x - suc y)))
  unfolding D W a b
  recursion_value x =
      ap (λ (v : A). v · E 0 x) (nat_mul ℚ (law.divisor * x) (total_weight table.weights)
      ∙ ap (λ (v : A). v · W) (nat_mul ℚ law.divisor x))
      ∙ turned D (nat ℚ x) W (E 0 x)
      ∙ ap (λ (v : A). D · W · v) (rows_value x)
      ∙ sum_scale ℚ law.order (D · W) (λ i. sum ℚ x (fractional i))
      ∙ sum_cong ℚ law.order (λ i l. sum_scale ℚ x (D · W) (fractional i) ∙ sum_cong ℚ x (λ y m. each i y)
      ∙ sum_cut ℚ x (length table.weights) (entire i) (λ y m. none i y m))
    where
      fractional : ℕ → ℕ → A
      fractional i y = (nat ℚ x · α i ⊹ nat ℚ (suc y) · β i) · f y · E i (x - suc y)

      entire : ℕ → ℕ → A
      entire i y = integer (whole_factor law table x (suc i) (suc y)) · E i (x - suc y)

      each : (i y : ℕ) → D · W · fractional i y ≡ entire i y
      each i y =
          cleared D W (nat ℚ x) (nat ℚ (suc y)) (α i) (β i) (f y) (E i (x - suc y))
          (integer (law.term_a (suc i))) (integer (law.term_b (suc i))) (nat ℚ (weight table (suc y)))
          (over_divisor (law.term_a (suc i))) (over_divisor (law.term_b (suc i))) (over_total (suc y))
          ∙ ap (λ (v : A). v · E i (x - suc y)) (sym (int_factor law table x (suc i) (suc y)))

      mixed : ℕ → ℕ → A
      mixed i y = integer (law.term_a (suc i)) · nat ℚ x ⊹ integer (law.term_b (suc i)) · nat ℚ (suc y)

      none : (i y : ℕ) → length table.weights ≤ y → entire i y ≡ 𝟘
      none i y m =
          ap (λ (v : A). v · E i (x - suc y)) (int_factor law table x (suc i) (suc y)
          ∙ ap (λ (w : ℕ). mixed i y · nat ℚ w) (weight_past table y m))
          ∙ simp (nat_zero, ring_units)

  pub convolution_value : (j x : ℕ) → nat ℚ (total_weight table.weights) · E (suc j) x
      ≡ sum ℚ (min x (length table.weights)) (λ y. nat ℚ (weight table (suc y)) · E j (x - suc y))
  unfolding W value_row convolve
  convolution_value j x =
      ap (λ (v : A). W · v) (row_next ℚ (λ y. value (density table y)) P j x)
      ∙ sum_scale ℚ x W (λ y. f y · E j (x - suc y))
      ∙ sum_cong ℚ x (λ y l. sym (ℚ.mul_assoc W (f y) (E j (x - suc y))) ∙ ap (λ (v : A). v · E j (x - suc y)) (over_total (suc y)))
      ∙ sum_cut ℚ x (length table.weights) (λ y. nat ℚ (weight table (suc y)) · E j (x - suc y))
      (λ y m. ap (λ (w : ℕ). nat ℚ w · E j (x - suc y)) (weight_past table y m) ∙ simp (nat_zero, ring_units))

  -- ---- at total 0
  pub first_value : E 0 0 ≡ value p
  unfolding exact_amount zero_to accumulate convolution
  first_value = sym (value_amount law table p 0)
      ∙ simp (value_times, value_plus, value_zero, value_one, (count_equations law).0, ring_units)

  pub first_further : (j : ℕ) → E (suc j) 0 ≡ 𝟘
  unfolding value_row convolve
  first_further j = row_next ℚ (λ y. value (density table y)) P j 0 ∙ sum_zero ℚ _

-- ---- the statements
pub back : (i : ℕ) → suc i - 1 ≡ i
back i = omega arith

pub ruleset values = (value_one_to, value_times, value_plus, value_amount, value_row_lem, value_nat, value_int, back)

pub published_recursion : PublishedRecursion
published_recursion law table p x = eq_of_value (simp values (published_value law table p x))

pub row_recursion : RowRecursion
row_recursion law table p x = eq_of_value (simp values (rows_value law table p x))

pub whole_recursion : WholeRecursion
whole_recursion law table p x = eq_of_value (simp values (recursion_value law table p x))

pub whole_convolution : WholeConvolution
whole_convolution law table p j x = eq_of_value (simp values (convolution_value law table p j x))

pub first_entries : FirstEntries
first_entries law table p = (
  eq_of_value (value_amount law table p 0 ∙ first_value law table p),
  (λ j. eq_of_value (value_row_lem law table p (suc j) 0 ∙ first_further law table p j ∙ sym value_zero)),
)
