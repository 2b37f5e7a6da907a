-- The law of the claims that are not zero. An equation between quotients is one between numbers, multiplied by the divisors D, W, V and
-- D W - A w(0); the recursion is that of the thinned law, whose factors are V times the given law's, divided by V.
use mathlib.Core.Path.{◌≡◌, sym, ◌∙◌, ap, ap₂}
use mathlib.Core.List.{[], ◌∷◌}
use Prim.Native.Nat.{ℕ, zero, suc, ◌+◌, ◌-◌, ◌*◌, ◌≤◌, ◌<◌, min}
use native.Mathlib.Nat as NL
use native.Mathlib.Omega.{arith}
use lib.IntN.{ℤ, pos, neg_ℤ, ◌-ℤ◌, ◌*ℤ◌}
use lib.Signed.{◌≤ℤ◌}
use lib.ListN.{length}
use Rattle.algebra.specs.Semiring.{nat}
use Rattle.algebra.specs.Ring.{Ring}
use Rattle.algebra.specs.Sum.{sum}
use Rattle.algebra.specs.Solver.{var, null, unit, ◌:+◌, ◌:*◌, :-◌}
use Rattle.algebra.specs.Fraction.{Fraction, over}
use Rattle.algebra.proofs.Semiring.{ring, nat_zero, nat_add, nat_mul}
use Rattle.algebra.proofs.Ring.{int_pos, int_up, int_neg, int_add, int_mul}
use Rattle.algebra.proofs.Induction.{strong}
use Rattle.algebra.proofs.Integer.{integers, signed, split_le, split_add, split_neg, split_mul}
use Rattle.algebra.proofs.Order.{rewritten, mul_mono, nat_nonneg, cancel_eq}
use Rattle.algebra.proofs.Solver.{solve}
use Rattle.algebra.proofs.Sum.{sum_cong, sum_scale}
use Rattle.algebra.proofs.Value.{order, ℚ, value, eq_of_value, value_le, le_of_value, le_of_whole, value_zero, value_nat, value_times}
use Rattle.algebra.proofs.Value.{value_over, value_over_nat, value_upper}
use Rattle.model.specs.Weights.{total_weight, all_weight, divisor_zero}
use Rattle.exact.specs.Frequency.{Frequency, a, b, count_coefficient}
use Rattle.exact.specs.Severity.{Severity, weight, density}
use Rattle.exact.specs.Recursion.{whole_factor}
use Rattle.exact.specs.Thinned.{all_pos, zero_share, complement, law_divisor, thinned_law, ThinnedDivisorLarge, ThinnedTerms}
use Rattle.exact.specs.Thinned.{ThinnedSeverities, ThinnedRecursion, ThinnedConvolution, ThinnedWithoutZeros}
use Rattle.exact.specs.JobAmount.{ZeroWeightSameAmounts}
use Rattle.exact.proofs.Convolution.{power}
use Rattle.exact.proofs.Sundt.{row, SundtClass}
use Rattle.exact.proofs.Frequency.{count_equations, count_class}
use Rattle.exact.proofs.Amount.{value_row, value_amount, value_row_lem}
use Rattle.exact.proofs.Recursion.{integer, recursion_value, convolution_value, values}

-- ---- over a ring: the terms of the thinned law, and its factors
module _ (R : Ring) where
  open R.semiring use {carrier as A, 𝟙, ◌⊹◌, ◌·◌}
  open R use {neg}

  infixl 6 ◌⊹◌
  infixl 7 ◌·◌
  -- C = D W - A₁ w, where D α₁ = A₁, D α = A and W q = w, so that C α' = A V says α' (1 - α₁ q) = α (1 - q)
  thinned_term : (D W V₁ w A₁ A' C α₁ α α' q : A)
      → D · α₁ ≡ A₁ → D · α ≡ A' → W · q ≡ w → W ≡ w ⊹ V₁ → C ≡ D · W ⊹ neg (A₁ · w) → C · α' ≡ A' · V₁
      → C · (D · W) · (α' · (𝟙 ⊹ neg (α₁ · q))) ≡ C · (D · W) · (α · (𝟙 ⊹ neg q))
  thinned_term D W V₁ w A₁ A' C α₁ α α' q first term share total divisor quotient =
      solve R (C ∷ D ∷ W ∷ α' ∷ α₁ ∷ q ∷ [])
      (var 0 :* (var 1 :* var 2) :* (var 3 :* (unit :+ :- (var 4 :* var 5))))
      (var 0 :* var 3 :* (var 1 :* var 2 :+ :- (var 1 :* var 4 :* (var 2 :* var 5)))) tt
      ∙ ap₂ (λ (u v : A). u · (D · W ⊹ neg v)) quotient (ap₂ ◌·◌ first share)
      ∙ ap (λ (u : A). A' · V₁ · u) (sym divisor)
      ∙ solve R (A' ∷ V₁ ∷ C ∷ w ∷ []) (var 0 :* var 1 :* var 2) (var 2 :* var 0 :* (var 3 :+ var 1 :+ :- var 3)) tt
      ∙ ap₂ (λ (u v : A). C · u · (v ⊹ neg w)) (sym term) (sym total)
      ∙ ap (λ (u : A). C · (D · α) · (W ⊹ neg u)) (sym share)
      ∙ solve R (C ∷ D ∷ W ∷ α ∷ q ∷ [])
      (var 0 :* (var 1 :* var 3) :* (var 2 :+ :- (var 2 :* var 4)))
      (var 0 :* (var 1 :* var 2) :* (var 3 :* (unit :+ :- var 4))) tt

  -- f (1 - q) is g, where V f and W g are both the weight w
  thinned_density : (V₁ W w₀ f q g w : A) → V₁ · f ≡ w → W · q ≡ w₀ → W · g ≡ w → W ≡ w₀ ⊹ V₁
      → V₁ · W · (f · (𝟙 ⊹ neg q)) ≡ V₁ · W · g
  thinned_density V₁ W w₀ f q g w own share whole_table total =
      solve R (V₁ ∷ W ∷ f ∷ q ∷ []) (var 0 :* var 1 :* (var 2 :* (unit :+ :- var 3))) (var 0 :* var 2 :* (var 1 :+ :- (var 1 :* var 3))) tt
      ∙ ap₂ (λ (u v : A). u · (W ⊹ neg v)) own share ∙ ap (λ (u : A). w · (u ⊹ neg w₀)) total
      ∙ solve R (w ∷ w₀ ∷ V₁ ∷ []) (var 0 :* (var 1 :+ var 2 :+ :- var 1)) (var 2 :* var 0) tt
      ∙ ap (λ (u : A). V₁ · u) (sym whole_table) ∙ sym (R.semiring.mul_assoc V₁ W g)

  -- a common factor of both terms
  common : (r u v x y w : A) → (u · r · x ⊹ v · r · y) · w ≡ r · ((u · x ⊹ v · y) · w)
  common r u v x y w = simp ring

open order use {◌⊑◌}
open order.ring use {neg}
open ℚ use {carrier as A, 𝟘, 𝟙, ◌⊹◌, ◌·◌}

infix 4 ◌⊑◌
infixl 6 ◌⊹◌
infixl 7 ◌·◌
-- ---- the divisor
-- D W - A w(0) is D V and (D - A) w(0)
pub thinned_divisor_large : ThinnedDivisorLarge
thinned_divisor_large D A w₀ weights h = omega (
  arith,
  split_add (pos (D * all_weight w₀ weights)) (neg_ℤ (A *ℤ pos w₀)),
  split_neg (A *ℤ pos w₀),
  split_mul A (pos w₀),
  NL.mul-le-mul_right w₀ (split_le h),
)

pub law_divisor_lem : (law : Frequency) (w₀ : ℕ) (table : Severity) → 1 ≤ law_divisor law w₀ table
    → nat ℚ (law_divisor law w₀ table)
    ≡ nat ℚ law.divisor · nat ℚ (all_weight w₀ table.weights) ⊹ neg (integer (law.term_a 1) · nat ℚ w₀)
law_divisor_lem law w₀ table h =
    int_up order.ring _ h ∙ int_add order.ring (pos (law.divisor * all_weight w₀ table.weights)) (neg_ℤ (law.term_a 1 *ℤ pos w₀))
    ∙ ap₂ ◌⊹◌ (int_pos order.ring _ ∙ nat_mul ℚ law.divisor (all_weight w₀ table.weights))
    (int_neg order.ring (law.term_a 1 *ℤ pos w₀) ∙ ap neg (int_mul order.ring (law.term_a 1) (pos w₀)
    ∙ ap (λ (u : A). integer (law.term_a 1) · u) (int_pos order.ring w₀)))

-- ---- the terms and the severities
value_complement : (x : Fraction) → value (complement x) ≡ 𝟙 ⊹ neg (value x)
unfolding complement
value_complement x = cancel_eq order x.lower x.lower_pos
    (value_over (pos x.lower -ℤ x.upper) x.lower x.lower_pos
    ∙ int_add order.ring (pos x.lower) (neg_ℤ x.upper)
    ∙ ap₂ ◌⊹◌ (int_pos order.ring x.lower) (int_neg order.ring x.upper ∙ ap neg (sym (value_upper x)))
    ∙ solve order.ring (nat ℚ x.lower ∷ value x ∷ []) (var 0 :+ :- (var 0 :* var 1)) (var 0 :* (unit :+ :- var 1)) tt)

ruleset fractions = (value_times, value_complement)

module _ (w₀ : ℕ) (table : Severity) where
  W : A
  W = nat ℚ (all_weight w₀ table.weights)

  V₁ : A
  V₁ = nat ℚ (total_weight table.weights)

  total : W ≡ nat ℚ w₀ ⊹ V₁
  unfolding W V₁
  total = nat_add ℚ w₀ (total_weight table.weights)

  share : W · value (zero_share w₀ table) ≡ nat ℚ w₀
  unfolding W zero_share
  share = value_over_nat w₀ (all_weight w₀ table.weights) (all_pos w₀ table)

  module _ (law : Frequency) (h : 1 ≤ law_divisor law w₀ table) where
    D : A
    D = nat ℚ law.divisor

    C : A
    C = nat ℚ (law_divisor law w₀ table)

    divisor : C ≡ D · W ⊹ neg (integer (law.term_a 1) · nat ℚ w₀)
    unfolding C D W
    divisor = law_divisor_lem law w₀ table h

    -- z over D, and z V over the thinned law's divisor
    module _ (z : ℤ) where
      given : A
      given = value (over z law.divisor law.divisor_pos)

      thinned : A
      thinned = value (over (z *ℤ pos (total_weight table.weights)) (law_divisor law w₀ table) h)

      term : D · given ≡ integer z
      unfolding D given
      term = value_over z law.divisor law.divisor_pos

      quotient : C · thinned ≡ integer z · V₁
      unfolding C V₁ thinned
      quotient = value_over (z *ℤ pos (total_weight table.weights)) (law_divisor law w₀ table) h
          ∙ int_mul order.ring z (pos (total_weight table.weights))
          ∙ ap (λ (u : A). integer z · u) (int_pos order.ring (total_weight table.weights))

    first : D · value (a law 1) ≡ integer (law.term_a 1)
    unfolding a given
    first = term (law.term_a 1)

    -- 1 - aq
    remaining : A
    remaining = 𝟙 ⊹ neg (value (a law 1) · value (zero_share w₀ table))

    paper : (z : ℤ) → thinned z · remaining ≡ given z · (𝟙 ⊹ neg (value (zero_share w₀ table)))
    unfolding C D W remaining
    paper z = cancel_eq order (law_divisor law w₀ table * (law.divisor * all_weight w₀ table.weights))
        (NL.mul-pos h (NL.mul-pos law.divisor_pos (all_pos w₀ table)))
        (rw (nat_mul, nat_mul) (thinned_term order.ring D W V₁ (nat ℚ w₀) (integer (law.term_a 1)) (integer z) C
        (value (a law 1)) (given z) (thinned z) (value (zero_share w₀ table)) first (term z) share total divisor (quotient z)))

    -- D W (1 - aq) is the divisor
    divisor_remaining : D · W · remaining ≡ C
    unfolding remaining
    divisor_remaining =
        solve order.ring (D ∷ W ∷ value (a law 1) ∷ value (zero_share w₀ table) ∷ [])
        (var 0 :* var 1 :* (unit :+ :- (var 2 :* var 3))) (var 0 :* var 1 :+ :- (var 0 :* var 2 :* (var 1 :* var 3))) tt
        ∙ ap₂ (λ (u v : A). D · W ⊹ neg (u · v)) first share ∙ sym divisor

    above_zero : ¬ (remaining ⊑ 𝟘)
    unfolding C D W
    above_zero l = none (le_of_whole (le_of_value (rewritten order
        (mul_mono order (D · W) (rw (← nat_mul) (nat_nonneg order (law.divisor * all_weight w₀ table.weights))) l)
        (divisor_remaining ∙ sym (value_nat (law_divisor law w₀ table))) (ℚ.mul_zero (D · W) ∙ sym value_zero))))
      where
        none : pos (law_divisor law w₀ table) ≤ℤ pos 0 → ⊥
        none k = omega (signed, h)

pub thinned_terms : ThinnedTerms
unfolding a b given thinned remaining
thinned_terms law w₀ table h = (
  (λ l. above_zero w₀ table law h (rewritten order (value_le l) (simp fractions) value_zero)),
  (λ i. eq_of_value (simp fractions (paper w₀ table law h (law.term_a i)))),
  (λ i. eq_of_value (simp fractions (paper w₀ table law h (law.term_b i)))),
)

pub thinned_severities : ThinnedSeverities
unfolding W V₁ density
thinned_severities w₀ table y = eq_of_value (simp fractions
    (cancel_eq order (total_weight table.weights * all_weight w₀ table.weights) (NL.mul-pos table.total_pos (all_pos w₀ table))
    (rw nat_mul (thinned_density order.ring (V₁ w₀ table) (W w₀ table) (nat ℚ w₀) _ _ _ (nat ℚ (weight table y))
    (value_over_nat (weight table y) (total_weight table.weights) table.total_pos) (share w₀ table)
    (value_over_nat (weight table y) (all_weight w₀ table.weights) (all_pos w₀ table)) (total w₀ table)))))

-- ---- the recursion
module _ (law : Frequency) (w₀ : ℕ) (table : Severity) (h : 1 ≤ law_divisor law w₀ table) where
  abbrev without : Frequency
  without = thinned_law law w₀ table h

  thinned_factor : (x i y : ℕ) → whole_factor without table x i y ≡ pos (total_weight table.weights) *ℤ whole_factor law table x i y
  unfolding whole_factor
  thinned_factor x i y = common integers (pos (total_weight table.weights)) (law.term_a i) (law.term_b i)
      (pos x) (pos y) (pos (weight table y))

  module _ (p : Fraction) where
    abbrev E : ℕ → ℕ → A
    E = value_row without table p

    pub thinned_recursion_value : (x : ℕ)
        → nat ℚ (divisor_zero law.divisor (law.term_a 1) w₀ (all_weight w₀ table.weights) x) · E 0 x
        ≡ sum ℚ law.order (λ i. sum ℚ (min x (length table.weights)) (λ y.
        integer (whole_factor law table x (suc i) (suc y)) · E i (x - suc y)))
    unfolding V₁ divisor_zero
    thinned_recursion_value x = cancel_eq order (total_weight table.weights) table.total_pos
        (sym (ℚ.mul_assoc _ _ _) ∙ ap (λ (u : A). u · E 0 x)
        (ℚ.mul_comm _ _ ∙ sym (nat_mul ℚ (law_divisor law w₀ table * x) (total_weight table.weights)))
        ∙ recursion_value without table p x
        ∙ sum_cong ℚ law.order (λ i l. sum_cong ℚ (min x (length table.weights)) (λ y m. each i y)
        ∙ sym (sum_scale ℚ (min x (length table.weights)) (V₁ w₀ table) (own i)))
        ∙ sym (sum_scale ℚ law.order (V₁ w₀ table) (λ i. sum ℚ (min x (length table.weights)) (own i))))
      where
        own : ℕ → ℕ → A
        own i y = integer (whole_factor law table x (suc i) (suc y)) · E i (x - suc y)

        each : (i y : ℕ) → integer (whole_factor without table x (suc i) (suc y)) · E i (x - suc y) ≡ V₁ w₀ table · own i y
        each i y = ap (λ (u : A). u · E i (x - suc y)) (ap integer (thinned_factor x (suc i) (suc y))
            ∙ int_mul order.ring _ _ ∙ ap (λ (u : A). u · integer (whole_factor law table x (suc i) (suc y))) (int_pos order.ring _))
            ∙ ℚ.mul_assoc _ _ _

    pub thinned_convolution_value : (j x : ℕ) → w₀ ≡ 0 → nat ℚ (all_weight w₀ table.weights) · E (suc j) x
        ≡ sum ℚ (min x (length table.weights)) (λ y. nat ℚ (weight table (suc y)) · E j (x - suc y))
    thinned_convolution_value j x e = ap (λ (n : ℕ). nat ℚ n · E (suc j) x) others ∙ convolution_value without table p j x
      where
        others : all_weight w₀ table.weights ≡ total_weight table.weights
        others = omega (arith, e)

pub thinned_recursion : ThinnedRecursion
thinned_recursion law w₀ table h p x = eq_of_value (simp values (thinned_recursion_value law w₀ table h p x))

pub thinned_convolution : ThinnedConvolution
thinned_convolution law w₀ table h p j x e = eq_of_value (simp values (thinned_convolution_value law w₀ table h p j x e))

-- ---- without zeros
-- a sequence of the class is known by its first number
class_unique : (k : ℕ) (α β α' β' P Q : ℕ → A) → ((i : ℕ) → α i ≡ α' i) → ((i : ℕ) → β i ≡ β' i)
    → SundtClass ℚ k α β P → SundtClass ℚ k α' β' Q → P 0 ≡ Q 0 → (n : ℕ) → P n ≡ Q n
class_unique k α β α' β' P Q same same' p q start = strong (λ n. P n ≡ Q n) step
  where
    step : (n : ℕ) → ((z : ℕ) → z < n → P z ≡ Q z) → P n ≡ Q n
    step zero before = start
    step (suc n) before = cancel_eq order (suc n) (NL.zero-lt-suc n) (p n ∙ sum_cong ℚ (min k (suc n)) (λ i l.
        ap₂ ◌·◌ (ap₂ (λ (u v : A). nat ℚ (suc n) · u ⊹ v) (same (suc i)) (same' (suc i))) (before (suc n - suc i) (omega arith)))
        ∙ sym (q n))

module _ (law : Frequency) (w₀ : ℕ) (table : Severity) (h : 1 ≤ law_divisor law w₀ table) (none : w₀ ≡ 0) where
  no_share : value (zero_share w₀ table) ≡ 𝟘
  unfolding W
  no_share = cancel_eq order (all_weight w₀ table.weights) (all_pos w₀ table)
      (share w₀ table ∙ ap (nat ℚ) none ∙ nat_zero ℚ ∙ sym (ℚ.mul_zero (W w₀ table)))

  -- where q is 0, both sides of the paper's equation are the terms themselves
  same_term : (z : ℤ) → thinned w₀ table law h z ≡ given w₀ table law h z
  unfolding remaining
  same_term z =
      plain (thinned w₀ table law h z) (value (a law 1))
      ∙ ap (λ (q : A). thinned w₀ table law h z · (𝟙 ⊹ neg (value (a law 1) · q))) (sym no_share)
      ∙ paper w₀ table law h z
      ∙ ap (λ (q : A). given w₀ table law h z · (𝟙 ⊹ neg q)) no_share
      ∙ solve order.ring (given w₀ table law h z ∷ []) (var 0 :* (unit :+ :- null)) (var 0) tt
    where
      plain : (u v : A) → u ≡ u · (𝟙 ⊹ neg (v · 𝟘))
      plain u v = solve order.ring (u ∷ v ∷ []) (var 0) (var 0 :* (unit :+ :- (var 1 :* null))) tt

  same_count : (p : A) (n : ℕ) → p · value (count_coefficient (thinned_law law w₀ table h) n) ≡ p · value (count_coefficient law n)
  unfolding a b given thinned
  same_count p n = class_unique law.order _ _ _ _ (λ n. p · value (count_coefficient (thinned_law law w₀ table h) n))
      (λ n. p · value (count_coefficient law n)) (λ i. same_term (law.term_a i)) (λ i. same_term (law.term_b i))
      (count_class (thinned_law law w₀ table h) p) (count_class law p)
      (ap (λ (c : Fraction). p · value c) ((count_equations (thinned_law law w₀ table h)).0 ∙ sym (count_equations law).0)) n

  same_row_lem : (p : Fraction) (j x : ℕ) → value_row (thinned_law law w₀ table h) table p j x ≡ value_row law table p j x
  unfolding value_row row
  same_row_lem p j x = sum_cong ℚ (suc x) (λ n l.
      ap (λ (u : A). u · power ℚ (λ y. value (density table y)) (n + j) x) (same_count (value p) n))

pub thinned_without_zeros : ThinnedWithoutZeros
thinned_without_zeros law w₀ table h p j x none = eq_of_value (simp value_row_lem (same_row_lem law w₀ table h none p j x))

pub zero_weight_same_amounts : ZeroWeightSameAmounts
zero_weight_same_amounts job weights h none p x = eq_of_value (simp value_amount (same_row_lem _ job.zero _ h.thinned_pos none p 0 x))
