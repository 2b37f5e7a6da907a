-- What n claims bring at a total shrinks with n where aq lies between -1 and 1: at total 0 by the ratio of the count coefficients, at a
-- later total by what they bring at the totals before, by strong induction over the total.
use mathlib.Core.Path.{◌≡◌, refl, sym, ◌∙◌, ap, ap₂, subst}
use mathlib.Core.List.{[], ◌∷◌}
use Prim.Native.Nat.{ℕ, zero, suc, ◌+◌, ◌-◌, ◌*◌, ◌≤◌, ◌<◌}
use native.Mathlib.Nat as NL
use native.Mathlib.Omega.{arith}
use lib.IntN.{pos, nat_abs}
use Rattle.algebra.specs.Semiring.{nat}
use Rattle.algebra.specs.Sum.{sum}
use Rattle.algebra.specs.Solver.{var, ◌:+◌, ◌:*◌, :-◌}
use Rattle.algebra.specs.Fraction.{Fraction, over, whole, ◌⊕◌, ◌⊗◌}
use Rattle.algebra.proofs.Induction.{strong}
use Rattle.algebra.proofs.Semiring.{ring, ring_units, mul_left_comm, nat_one, nat_add, nat_mul}
use Rattle.algebra.proofs.Order.{rewritten, nat_mono, cancel_eq}
use Rattle.algebra.proofs.Solver.{solve}
use Rattle.algebra.proofs.Sum.{sum_zero, sum_cong}
use Rattle.algebra.proofs.Value.{order, ℚ, value, value_plus, value_times, value_nat, value_over, value_over_nat}
use Rattle.model.specs.Weights.{all_weight}
use Rattle.exact.specs.Frequency.{Frequency, a, b}
use Rattle.exact.specs.Severity.{Severity}
use Rattle.exact.specs.Thinned.{all_pos}
use Rattle.exact.specs.Zeros.{density_with_zero, of_claims}
use Rattle.exact.proofs.Convolution.{convolve}
use Rattle.exact.proofs.Recursion.{integer, cleared}
use Rattle.algebra.proofs.Sized.{Sized, sized_mono, sized_add, sized_mul, sized_nat, sized_int, sized_over}
use Rattle.algebra.proofs.Sized.{Shrinks, shrinks_same, shrinks_zero, shrinks_plus, shrinks_times, shrinks_end, shrinks_next}
use Rattle.exact.proofs.Apart.{sized_value}
use Rattle.exact.proofs.Theorem9.{term, power_all, convolve_all, factor, theorem_apart}
use Rattle.exact.proofs.Cut.{f, P, claims, value_of_claims, class_one, claims_value}
use Rattle.exact.proofs.Difference.{Negligible, negligible_sum, negligible_over}
open order.ring use {neg}
open ℚ use {carrier as A, 𝟘, 𝟙, ◌⊹◌, ◌·◌}

infixl 6 ◌⊹◌
infixl 7 ◌·◌
-- ---- shrinking is negligible
pub shrinking : Negligible (Shrinks order)
shrinking = record {
  same = shrinks_same order;
  nothing = shrinks_zero order;
  plus = shrinks_plus order;
  times = λ c u s. shrinks_times order (value c) (nat_abs c.upper) u (sized_value c) s;
}

-- ---- what n claims bring
module _ (law : Frequency) (w₀ : ℕ) (table : Severity) (p : Fraction) where
  claims_size : ℕ → ℕ → ℕ
  claims_size x n = nat_abs (of_claims law w₀ table p n x).upper

  size : (x n : ℕ) → Sized order (claims law w₀ table p n x) (nat ℚ (claims_size x n))
  unfolding claims_size
  size x n = subst (λ (v : A). Sized order v (nat ℚ (nat_abs (of_claims law w₀ table p n x).upper))) (value_of_claims law w₀ table p n x)
      (sized_value (of_claims law w₀ table p n x))

  -- nothing from some n on
  pub claims_end : (from x : ℕ) → ((n : ℕ) → from ≤ n → claims law w₀ table p n x ≡ 𝟘) → Shrinks order (λ n. claims law w₀ table p n x)
  claims_end from x e = shrinks_end order (λ n. claims law w₀ table p n x) (claims_size x) (size x) from e

-- ---- where aq lies between -1 and 1
module _ (law : Frequency) (one : law.order ≡ 1) (w₀ : ℕ) (table : Severity) (p : Fraction)
    (inside : nat_abs (law.term_a 1) * w₀ < law.divisor * all_weight w₀ table.weights) where
  abbrev T : ℕ → ℕ → A
  T = claims law w₀ table p

  abbrev α : A
  α = value (a law 1)

  abbrev β : A
  β = value (b law 1)

  abbrev q : A
  q = f w₀ table 0

  -- D W
  abbrev M : ℕ
  M = law.divisor * all_weight w₀ table.weights

  -- D W (u α + v β) q is (u A + v B) w(0)
  whole_ratio : (u v : A) → nat ℚ M · ((u · α ⊹ v · β) · q) ≡ (integer (law.term_a 1) · u ⊹ integer (law.term_b 1) · v) · nat ℚ w₀
  unfolding a b density_with_zero
  whole_ratio u v =
      ap₂ ◌·◌ (nat_mul ℚ law.divisor (all_weight w₀ table.weights)) (sym (ℚ.mul_one ((u · α ⊹ v · β) · q)))
      ∙ cleared (nat ℚ law.divisor) (nat ℚ (all_weight w₀ table.weights)) u v α β q 𝟙
      (integer (law.term_a 1)) (integer (law.term_b 1)) (nat ℚ w₀)
      (value_over (law.term_a 1) law.divisor law.divisor_pos) (value_over (law.term_b 1) law.divisor law.divisor_pos)
      (value_over_nat w₀ (all_weight w₀ table.weights) (all_pos w₀ table))
      ∙ ℚ.mul_one _

  -- ---- at total 0
  -- (a + b/(n+1)) q
  ratio : ℕ → A
  ratio n = value (over (pos 1) (suc n) (NL.zero-lt-suc n)) · ((nat ℚ (suc n) · α ⊹ nat ℚ 1 · β) · q)

  ratio_whole : (n : ℕ) → nat ℚ (suc n) · ratio n ≡ (nat ℚ (suc n) · α ⊹ nat ℚ 1 · β) · q
  unfolding ratio
  ratio_whole n = sym (ℚ.mul_assoc _ _ _) ∙ ap (λ (v : A). v · ((nat ℚ (suc n) · α ⊹ nat ℚ 1 · β) · q))
      (value_over_nat 1 (suc n) (NL.zero-lt-suc n) ∙ nat_one ℚ) ∙ simp ring_units

  first_next : (n : ℕ) → T (suc n) 0 ≡ ratio n · T n 0 ⊹ 𝟘
  unfolding term power_all convolve_all convolve
  first_next n = cancel_eq order (suc n) (NL.zero-lt-suc n)
      (ap (λ (v : A). nat ℚ (suc n) · (P law p (suc n) · (q · w ⊹ v))) (sum_zero ℚ _)
      ∙ left (nat ℚ (suc n)) (P law p (suc n)) (q · w) ∙ ap (λ (v : A). v · (q · w)) (class_one law one p n)
      ∙ close (nat ℚ (suc n) · α) β (P law p n) q w ∙ ap (λ (v : A). (nat ℚ (suc n) · α ⊹ v · β) · q · (P law p n · w)) (sym (nat_one ℚ))
      ∙ ap (λ (v : A). v · (P law p n · w)) (sym (ratio_whole n)) ∙ right (nat ℚ (suc n)) (ratio n) (P law p n · w))
    where
      w : A
      w = power_all ℚ (f w₀ table) n 0

      left : (n p v : A) → n · (p · (v ⊹ 𝟘)) ≡ n · p · v
      left n p v = simp (ring, ring_units)

      close : (u β p q w : A) → (u ⊹ β) · p · (q · w) ≡ (u ⊹ 𝟙 · β) · q · (p · w)
      close u β p q w = simp (ring, ring_units)

      right : (n r v : A) → n · r · v ≡ n · (r · v ⊹ 𝟘)
      right n r v = simp (ring, ring_units)

  double : suc (2 * M - 1) ≡ 2 * M
  double = omega (arith, inside)

  first_ratio : (n : ℕ) → 2 * (nat_abs (law.term_b 1) * w₀) ≤ n → Sized order (nat ℚ (suc (2 * M - 1)) · ratio n) (nat ℚ (2 * M - 1))
  first_ratio n l = sized_over order (suc n) (NL.zero-lt-suc n) (subst (λ (v : A). Sized order v (nat ℚ (suc n) · nat ℚ (2 * M - 1)))
      (sym (mul_left_comm ℚ (nat ℚ (suc n)) (nat ℚ (suc (2 * M - 1))) (ratio n)
      ∙ ap₂ ◌·◌ (ap (nat ℚ) double ∙ nat_mul ℚ 2 M) (ratio_whole n) ∙ ℚ.mul_assoc _ _ _
      ∙ ap (λ (v : A). nat ℚ 2 · v) (whole_ratio (nat ℚ (suc n)) (nat ℚ 1))))
      (sized_mono order
      (sized_mul order (sized_nat order 2) (sized_mul order (sized_add order
      (sized_mul order (sized_int order (law.term_a 1)) (sized_nat order (suc n)))
      (sized_mul order (sized_int order (law.term_b 1)) (sized_nat order 1))) (sized_nat order w₀)))
      (rewritten order (nat_mono order (room (nat_abs (law.term_a 1)) (nat_abs (law.term_b 1)) M n (2 * M - 1) double inside l))
      (simp (nat_mul, nat_add)) (nat_mul ℚ (suc n) (2 * M - 1)))))
    where
      room : (u v m n d : ℕ) → suc d ≡ 2 * m → u * w₀ < m → 2 * (v * w₀) ≤ n → 2 * ((u * suc n + v * 1) * w₀) ≤ suc n * d
      room u v m n d e h k = omega (arith, ap (λ (i : ℕ). suc n * i) e, NL.mul-le-mul_left (suc n) h)

  first_shrinks : Shrinks order (λ n. T n 0)
  first_shrinks = shrinks_next order (λ n. T n 0) (λ n. 𝟘) ratio (2 * M - 1) (2 * (nat_abs (law.term_b 1) * w₀))
      (λ n _. first_next n) first_ratio shrinking.nothing (claims_size law w₀ table p 0) (size law w₀ table p 0)

  -- ---- at a later total
  single : suc (M - 1) ≡ M
  single = omega (arith, inside)

  later_ratio : Sized order (nat ℚ (suc (M - 1)) · (α · q)) (nat ℚ (M - 1))
  later_ratio = subst (λ (v : A). Sized order v (nat ℚ (M - 1)))
      (sym (ap₂ ◌·◌ (ap (nat ℚ) single) (plain α β q) ∙ whole_ratio 𝟙 𝟘
      ∙ left (integer (law.term_a 1)) (integer (law.term_b 1)) (nat ℚ w₀)))
      (sized_mono order (sized_mul order (sized_int order (law.term_a 1)) (sized_nat order w₀))
      (rewritten order (nat_mono order {n = M - 1} (omega (arith, inside))) (nat_mul ℚ (nat_abs (law.term_a 1)) w₀) refl))
    where
      plain : (α β q : A) → α · q ≡ (𝟙 · α ⊹ 𝟘 · β) · q
      plain α β q = simp ring_units

      left : (u v w : A) → (u · 𝟙 ⊹ v · 𝟘) · w ≡ u · w
      left u v w = simp ring_units

  -- what the totals before bring
  earlier : ℕ → ℕ → A
  earlier x n = T (suc n) x ⊹ neg (α · q · T n x)

  part : ℕ → ℕ → Fraction
  part x y = (whole (pos x) ⊗ a law 1 ⊕ whole (pos (suc y)) ⊗ b law 1) ⊗ density_with_zero w₀ table (suc y)

  earlier_sum : (x n : ℕ) → nat ℚ x · earlier x n ≡ sum ℚ x (λ y. value (part x y) · T n (x - suc y))
  unfolding earlier part factor
  earlier_sum x n =
      apart (nat ℚ x) (T (suc n) x) (α · q · T n x)
      ∙ ap (λ (v : A). v ⊹ neg (nat ℚ x · (α · q · T n x)))
      (claims_value law one p w₀ table n x ∙ theorem_apart ℚ (f w₀ table) α β (T n) x)
      ∙ left (nat ℚ x) α q (T n x) (sum ℚ x (λ y. factor ℚ (f w₀ table) α β x (suc y) · T n (x - suc y)))
      ∙ sum_cong ℚ x (λ y l. ap (λ (v : A). v · T n (x - suc y)) (sym (simp (value_times, value_plus, value_nat))))
    where
      apart : (x g k : A) → x · (g ⊹ neg k) ≡ x · g ⊹ neg (x · k)
      apart x g k = solve order.ring (x ∷ g ∷ k ∷ []) (var 0 :* (var 1 :+ :- var 2)) (var 0 :* var 1 :+ :- (var 0 :* var 2)) tt

      left : (x α q c r : A) → x · α · q · c ⊹ r ⊹ neg (x · (α · q · c)) ≡ r
      left x α q c r = solve order.ring (x ∷ α ∷ q ∷ c ∷ r ∷ [])
          (var 0 :* var 1 :* var 2 :* var 3 :+ var 4 :+ :- (var 0 :* (var 1 :* var 2 :* var 3))) (var 4) tt

  later_next : (x n : ℕ) → T (suc n) x ≡ α · q · T n x ⊹ earlier x n
  unfolding earlier
  later_next x n = again (T (suc n) x) (α · q · T n x)
    where
      again : (c k : A) → c ≡ k ⊹ (c ⊹ neg k)
      again c k = solve order.ring (c ∷ k ∷ []) (var 0) (var 1 :+ (var 0 :+ :- var 1)) tt

  step : (x : ℕ) → ((z : ℕ) → z < x → Shrinks order (λ n. T n z)) → Shrinks order (λ n. T n x)
  step zero before = first_shrinks
  step (suc x) before = shrinks_next order (λ n. T n (suc x)) (earlier (suc x)) (λ n. α · q) (M - 1) 0 (λ n _. later_next (suc x) n)
      (λ n _. later_ratio)
      (negligible_over shrinking (suc x) (NL.zero-lt-suc x) (earlier (suc x)) _ (earlier_sum (suc x))
      (negligible_sum shrinking (suc x) (λ y n. value (part (suc x) y) · T n (suc x - suc y)) (λ y l.
      shrinking.times (part (suc x) y) (λ n. T n (suc x - suc y)) (before (suc x - suc y) (omega arith)))))
      (claims_size law w₀ table p (suc x)) (size law w₀ table p (suc x))

  pub claims_shrink : (x : ℕ) → Shrinks order (λ n. T n x)
  claims_shrink = strong (λ x. Shrinks order (λ n. T n x)) step
