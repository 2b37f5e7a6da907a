-- Partial sums beside the thinned amounts: their difference follows the recursion of the thinned law but for what one claim more brings. So
-- where that is negligible at each total, the difference is; "negligible" is anything that sums and constant factors keep.
use mathlib.Core.Path.{◌≡◌, sym, ◌∙◌, ap, ap₂}
use mathlib.Core.List.{[], ◌∷◌}
use Prim.Native.Nat.{ℕ, zero, suc, ◌-◌, ◌*◌, ◌≤◌, ◌<◌, min}
use native.Mathlib.Nat as NL
use native.Mathlib.Omega.{arith}
use lib.IntN.{pos, neg_ℤ}
use lib.ListN.{length}
use Rattle.algebra.specs.Semiring.{nat}
use Rattle.algebra.specs.Sum.{sum}
use Rattle.algebra.specs.Solver.{var, ◌:+◌, ◌:*◌, :-◌}
use Rattle.algebra.specs.Fraction.{Fraction, over, whole}
use Rattle.algebra.proofs.Induction.{strong}
use Rattle.algebra.proofs.Semiring.{ring, ring_units, zero_add, nat_zero, nat_one, nat_mul}
use Rattle.algebra.proofs.Ring.{int_pos, int_neg}
use Rattle.algebra.proofs.Solver.{solve}
use Rattle.algebra.proofs.Sum.{sum_suc, sum_zero, sum_cong, sum_add, sum_scale, sum_shift, sum_cut}
use Rattle.algebra.proofs.Value.{order, ℚ, value, value_int, value_over, value_over_nat}
use Rattle.model.specs.Weights.{all_weight, divisor_zero}
use Rattle.exact.specs.Frequency.{Frequency, a, b}
use Rattle.exact.specs.Severity.{Severity}
use Rattle.exact.specs.Recursion.{whole_factor}
use Rattle.exact.specs.Thinned.{all_pos, law_divisor, thinned_law}
use Rattle.exact.specs.Zeros.{weight_with_zero, density_with_zero, up_to_claims}
use Rattle.exact.proofs.Amount.{value_row}
use Rattle.exact.proofs.Recursion.{integer, cleared, int_factor, weight_past, first_value}
use Rattle.exact.proofs.Thinned.{law_divisor_lem, thinned_recursion_value}
use Rattle.exact.proofs.Theorem9.{partial, factor, theorem}
use Rattle.exact.proofs.Cut.{f, claims, up_to, value_up_to_claims, cut_value}
open order.ring use {neg}
open ℚ use {carrier as A, 𝟘, ◌⊹◌, ◌·◌}

infixl 6 ◌⊹◌
infixl 7 ◌·◌
-- ---- what is negligible
pub record Negligible (Q : (ℕ → A) → Type 0) : Type 1 where
  pub same : (u v : ℕ → A) → ((n : ℕ) → u n ≡ v n) → Q u → Q v
  pub nothing : Q (λ n. 𝟘)
  pub plus : (u v : ℕ → A) → Q u → Q v → Q (λ n. u n ⊹ v n)
  pub times : (c : Fraction) (u : ℕ → A) → Q u → Q (λ n. value c · u n)

module _ {Q : (ℕ → A) → Type 0} (small : Negligible Q) where
  pub negligible_sum : (k : ℕ) (u : ℕ → ℕ → A) → ((i : ℕ) → i < k → Q (u i)) → Q (λ n. sum ℚ k (λ i. u i n))
  negligible_sum zero u q = small.same (λ n. 𝟘) _ (λ n. sym (sum_zero ℚ (λ i. u i n))) small.nothing
  negligible_sum (suc k) u q = small.same _ _ (λ n. sym (sum_suc ℚ k (λ i. u i n)))
      (small.plus _ (u k) (negligible_sum k u (λ i l. q i (omega arith))) (q k (omega arith)))

  -- a quotient
  pub negligible_over : (d : ℕ) → 1 ≤ d → (u v : ℕ → A) → ((n : ℕ) → nat ℚ d · u n ≡ v n) → Q v → Q u
  negligible_over d l u v e q = small.same _ u (λ n. back (u n) (v n) (e n)) (small.times (over (pos 1) d l) v q)
    where
      r : A
      r = value (over (pos 1) d l)

      regroup : (r d s : A) → r · (d · s) ≡ d · r · s
      regroup r d s = simp ring

      back : (s t : A) → nat ℚ d · s ≡ t → r · t ≡ s
      back s t e = ap (λ (v : A). r · v) (sym e) ∙ regroup r (nat ℚ d) s
          ∙ ap (λ (v : A). v · s) (value_over_nat 1 d l ∙ nat_one ℚ) ∙ simp ring_units

module _ (law : Frequency) (one : law.order ≡ 1) (w₀ : ℕ) (table : Severity) (h : 1 ≤ law_divisor law w₀ table) (p : Fraction) where
  abbrev G : ℕ → ℕ → A
  G = up_to law w₀ table p

  abbrev T : ℕ → ℕ → A
  T = claims law w₀ table p

  D : A
  D = nat ℚ law.divisor

  W : A
  W = nat ℚ (all_weight w₀ table.weights)

  -- A w(0)
  Z : A
  Z = integer (law.term_a 1) · nat ℚ w₀

  -- the whole factor of severity y + 1
  F : ℕ → ℕ → A
  F x y = integer (whole_factor law table x 1 (suc y))

  -- the thinned amount with the start of n claims
  unfoldable pub thinned : ℕ → ℕ → A
  thinned n x = value_row (thinned_law law w₀ table h) table (up_to_claims law w₀ table p n 0) 0 x

  -- ---- the recursions with whole factors
  -- D W x g(x) with one claim more is A w(0) x g(x) and the whole factors times the amounts before it
  cut_whole : (n x : ℕ) → D · W · (nat ℚ x · G (suc n) x) ≡ Z · (nat ℚ x · G n x) ⊹ sum ℚ x (λ y. F x y · G n (x - suc y))
  unfolding D W Z F theorem factor density_with_zero a b
  cut_whole n x =
      ap (λ (v : A). D · W · v) (cut_value law one p w₀ table n x)
      ∙ sum_scale ℚ (suc x) (D · W) (λ y. (nat ℚ x · value (a law 1) ⊹ nat ℚ y · value (b law 1)) · f w₀ table y · G n (x - y))
      ∙ sum_cong ℚ (suc x) (λ y l. cleared D W (nat ℚ x) (nat ℚ y) (value (a law 1)) (value (b law 1)) (f w₀ table y) (G n (x - y))
      (integer (law.term_a 1)) (integer (law.term_b 1)) (nat ℚ (weight_with_zero w₀ table y))
      (value_over (law.term_a 1) law.divisor law.divisor_pos) (value_over (law.term_b 1) law.divisor law.divisor_pos)
      (value_over_nat (weight_with_zero w₀ table y) (all_weight w₀ table.weights) (all_pos w₀ table)))
      ∙ sum_shift ℚ x (λ y.
      (integer (law.term_a 1) · nat ℚ x ⊹ integer (law.term_b 1) · nat ℚ y) · nat ℚ (weight_with_zero w₀ table y) · G n (x - y))
      ∙ ap₂ ◌⊹◌
      (ap₂ (λ (v : A) (z : ℕ). (integer (law.term_a 1) · nat ℚ x ⊹ integer (law.term_b 1) · v) · nat ℚ w₀ · G n z) (nat_zero ℚ)
      (NL.sub-zero x)
      ∙ plain (integer (law.term_a 1)) (integer (law.term_b 1)) (nat ℚ x) (nat ℚ w₀) (G n x))
      (sum_cong ℚ x (λ y l. ap (λ (v : A). v · G n (x - suc y)) (sym (int_factor law table x 1 (suc y)))))
    where
      plain : (u v x w g : A) → (u · x ⊹ v · 𝟘) · w · g ≡ u · w · (x · g)
      plain u v x w g = simp ring_units (simp ring)

  thinned_whole : (n x : ℕ) → nat ℚ (law_divisor law w₀ table * x) · thinned n x ≡ sum ℚ x (λ y. F x y · thinned n (x - suc y))
  unfolding F thinned divisor_zero
  thinned_whole n x =
      thinned_recursion_value law w₀ table h (up_to_claims law w₀ table p n 0) x
      ∙ ap (λ (k : ℕ). sum ℚ k (λ i. sum ℚ m (each i))) one ∙ sum_suc ℚ 0 (λ i. sum ℚ m (each i))
      ∙ ap (λ (v : A). v ⊹ sum ℚ m (each 0)) (sum_zero ℚ (λ i. sum ℚ m (each i))) ∙ zero_add ℚ (sum ℚ m (each 0))
      ∙ sym (sum_cut ℚ x (length table.weights) (each 0) none)
    where
      m : ℕ
      m = min x (length table.weights)

      each : ℕ → ℕ → A
      each i y = integer (whole_factor law table x (suc i) (suc y))
          · value_row (thinned_law law w₀ table h) table (up_to_claims law w₀ table p n 0) i (x - suc y)

      none : (y : ℕ) → length table.weights ≤ y → each 0 y ≡ 𝟘
      none y l = ap (λ (v : A). v · thinned n (x - suc y))
          (int_factor law table x 1 (suc y)
          ∙ ap (λ (w : ℕ). (integer (law.term_a 1) · nat ℚ x ⊹ integer (law.term_b 1) · nat ℚ (suc y)) · nat ℚ w)
          (weight_past table y l))
          ∙ simp (nat_zero, ring_units)

  -- ---- the difference
  unfoldable pub difference : ℕ → ℕ → A
  difference n x = G n x ⊹ neg (thinned n x)

  difference_next : (n x : ℕ) → nat ℚ (law_divisor law w₀ table * x) · difference n x
      ≡ sum ℚ x (λ y. F x y · difference n (x - suc y)) ⊹ neg (D · W · (nat ℚ x · T (suc n) x))
  unfolding D W Z difference partial
  difference_next n x =
      apart (nat ℚ (law_divisor law w₀ table * x)) (G n x) (thinned n x)
      ∙ ap₂ (λ (u v : A). u ⊹ neg v)
      (ap (λ (v : A). v · G n x) (nat_mul ℚ (law_divisor law w₀ table) x ∙ ap (λ (v : A). v · nat ℚ x) (law_divisor_lem law w₀ table h))
      ∙ moved (D · W) Z (nat ℚ x) (G n x) (T (suc n) x)
      ∙ ap (λ (v : A). v ⊹ neg (Z · (nat ℚ x · G n x)) ⊹ neg lacking)
      (ap (λ (v : A). D · W · (nat ℚ x · v)) (sym (sum_suc ℚ (suc n) (λ m. T m x))) ∙ cut_whole n x
      ∙ ap (λ (v : A). Z · (nat ℚ x · G n x) ⊹ v) (sym parts)))
      (thinned_whole n x)
      ∙ left (Z · (nat ℚ x · G n x)) (sum ℚ x (λ y. F x y · difference n (x - suc y)))
      (sum ℚ x (λ y. F x y · thinned n (x - suc y))) lacking
    where
      lacking : A
      lacking = D · W · (nat ℚ x · T (suc n) x)

      apart : (c g k : A) → c · (g ⊹ neg k) ≡ c · g ⊹ neg (c · k)
      apart c g k = solve order.ring (c ∷ g ∷ k ∷ []) (var 0 :* (var 1 :+ :- var 2)) (var 0 :* var 1 :+ :- (var 0 :* var 2)) tt

      moved : (d w x g t : A) → (d ⊹ neg w) · x · g ≡ d · (x · (g ⊹ t)) ⊹ neg (w · (x · g)) ⊹ neg (d · (x · t))
      moved d w x g t = solve order.ring (d ∷ w ∷ x ∷ g ∷ t ∷ []) ((var 0 :+ :- var 1) :* var 2 :* var 3)
          (var 0 :* (var 2 :* (var 3 :+ var 4)) :+ :- (var 1 :* (var 2 :* var 3)) :+ :- (var 0 :* (var 2 :* var 4))) tt

      left : (s u v r : A) → s ⊹ (u ⊹ v) ⊹ neg s ⊹ neg r ⊹ neg v ≡ u ⊹ neg r
      left s u v r = solve order.ring (s ∷ u ∷ v ∷ r ∷ [])
          (var 0 :+ (var 1 :+ var 2) :+ :- var 0 :+ :- var 3 :+ :- var 2) (var 1 :+ :- var 3) tt

      again : (f g k : A) → f · (g ⊹ neg k) ⊹ f · k ≡ f · g
      again f g k = solve order.ring (f ∷ g ∷ k ∷ []) (var 0 :* (var 1 :+ :- var 2) :+ var 0 :* var 2) (var 0 :* var 1) tt

      parts : sum ℚ x (λ y. F x y · difference n (x - suc y)) ⊹ sum ℚ x (λ y. F x y · thinned n (x - suc y))
          ≡ sum ℚ x (λ y. F x y · G n (x - suc y))
      parts = sym (sum_add ℚ x (λ y. F x y · difference n (x - suc y)) (λ y. F x y · thinned n (x - suc y)))
          ∙ sum_cong ℚ x (λ y l. again (F x y) (G n (x - suc y)) (thinned n (x - suc y)))

  difference_first : (n : ℕ) → difference n 0 ≡ 𝟘
  unfolding difference thinned
  difference_first n =
      ap (λ (v : A). G n 0 ⊹ neg v) (first_value (thinned_law law w₀ table h) table (up_to_claims law w₀ table p n 0)
      ∙ value_up_to_claims law w₀ table p n 0)
      ∙ order.ring.add_neg (G n 0)

  module _ {Q : (ℕ → A) → Type 0} (small : Negligible Q) (next : (x : ℕ) → Q (λ n. T (suc n) x)) where
    pub difference_negligible : (x : ℕ) → Q (λ n. difference n x)
    unfolding D W F
    difference_negligible = strong (λ x. Q (λ n. difference n x)) step
      where
        -- what one claim more brings, times its factor
        lacking : (x : ℕ) (t : A)
            → value (whole (neg_ℤ (pos (law.divisor * all_weight w₀ table.weights * x)))) · t ≡ neg (D · W · (nat ℚ x · t))
        lacking x t = ap (λ (v : A). v · t) (value_int _ ∙ int_neg order.ring _ ∙ ap neg (int_pos order.ring _
            ∙ nat_mul ℚ _ x ∙ ap (λ (v : A). v · nat ℚ x) (nat_mul ℚ _ _)))
            ∙ solve order.ring (D ∷ W ∷ nat ℚ x ∷ t ∷ [])
            (:- (var 0 :* var 1 :* var 2) :* var 3) (:- (var 0 :* var 1 :* (var 2 :* var 3))) tt

        step : (x : ℕ) → ((z : ℕ) → z < x → Q (λ n. difference n z)) → Q (λ n. difference n x)
        step zero before = small.same (λ n. 𝟘) _ (λ n. sym (difference_first n)) small.nothing
        step (suc x) before = negligible_over small (law_divisor law w₀ table * suc x) (NL.mul-pos h (NL.zero-lt-suc x)) _ _
            (λ n. difference_next n (suc x))
            (small.plus _ _
            (negligible_sum small (suc x) (λ y n. F (suc x) y · difference n (suc x - suc y)) (λ y l. small.same _ _
            (λ n. ap (λ (v : A). v · difference n (suc x - suc y)) (value_int (whole_factor law table (suc x) 1 (suc y))))
            (small.times (whole (whole_factor law table (suc x) 1 (suc y))) _ (before (suc x - suc y) (omega arith)))))
            (small.same _ _ (λ n. lacking (suc x) (T (suc n) (suc x))) (small.times _ _ (next (suc x)))))
