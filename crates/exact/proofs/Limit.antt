-- The partial sums are, or come to, the thinned amounts, for what one claim more brings is nothing where the law ends, and shrinks where aq
-- lies between -1 and 1. A distribution is one of both: with A zero or more a positive divisor says that aq is below 1, and with A below
-- zero the count coefficients end.
use mathlib.Core.Path.{◌≡◌, refl, sym, ◌∙◌, ap, ap₂}
use mathlib.Core.List.{[], ◌∷◌}
use Prim.Native.Nat.{ℕ, suc, ◌*◌, ◌≤◌, ◌<◌}
use native.Mathlib.Nat as NL
use lib.IntN.{ℤ, pos, negsuc, neg_ℤ, nat_abs, ◌+ℤ◌, ◌-ℤ◌, ◌*ℤ◌}
use lib.Signed.{◌≤ℤ◌}
use Rattle.algebra.specs.Semiring.{nat}
use Rattle.algebra.specs.Ring.{int}
use Rattle.algebra.specs.Solver.{var, ◌:+◌, ◌:*◌, :-◌}
use Rattle.algebra.specs.Fraction.{Fraction, whole, ◌≼◌}
use Rattle.algebra.proofs.Semiring.{ring, ring_units, one_mul, zero_add}
use Rattle.algebra.proofs.Ring.{int_pos, int_add, int_mul, neg_zero}
use Rattle.algebra.proofs.Integer.{signed, split_le, split_add, split_neg, split_mul, split_size, up_least, ≤ℤ-dec}
use Rattle.algebra.proofs.Order.{rewritten, neg_mono, nat_nonneg, cancel_le}
use Rattle.algebra.proofs.Solver.{solve}
use Rattle.algebra.proofs.Value.{order, ℚ, value, eq_of_value, value_eq, value_le, value_zero, value_one, value_over}
use Rattle.model.specs.Weights.{all_weight, thinned_divisor}
use Rattle.exact.specs.Frequency.{Frequency, a, b, count_coefficient}
use Rattle.exact.specs.Severity.{Severity}
use Rattle.exact.specs.Thinned.{law_divisor}
use Rattle.exact.specs.Zeros.{up_to_claims, thinned_amount, ComeTogether, FiniteIsThinned, LimitIsThinned, DistributionIsThinned}
use Rattle.exact.proofs.Amount.{value_amount}
use Rattle.exact.proofs.Recursion.{integer}
use Rattle.algebra.proofs.Sized.{Shrinks, shrinks_shift}
use Rattle.exact.proofs.Apart.{apart_over}
use Rattle.exact.proofs.Theorem9.{term, power_all}
use Rattle.exact.proofs.Cut.{f, P, claims, up_to, value_up_to_claims, class_one}
use Rattle.exact.proofs.Difference.{Negligible, thinned, difference, difference_negligible}
use Rattle.exact.proofs.Shrinking.{shrinking, claims_end, claims_shrink}
open order use {◌⊑◌}
open order.ring use {neg}
open ℚ use {carrier as A, 𝟘, ◌⊹◌, ◌·◌}

infix 4 ◌⊑◌
infixl 6 ◌⊹◌
infixl 7 ◌·◌
-- ---- the difference as one of fractions
module _ (law : Frequency) (one : law.order ≡ 1) (w₀ : ℕ) (table : Severity) (h : 1 ≤ law_divisor law w₀ table) (p : Fraction) where
  abbrev G : ℕ → ℕ → A
  G = up_to law w₀ table p

  abbrev K : ℕ → ℕ → A
  K = thinned law one w₀ table h p

  value_thinned : (n x : ℕ) → value (thinned_amount law w₀ table h (up_to_claims law w₀ table p n 0) x) ≡ K n x
  unfolding thinned
  value_thinned n x = value_amount _ table (up_to_claims law w₀ table p n 0) x

  none_apart : (n x : ℕ) → difference law one w₀ table h p n x ≡ 𝟘 → G n x ≡ K n x
  unfolding difference
  none_apart n x e = back (G n x) (K n x) ∙ ap (λ (v : A). v ⊹ K n x) e ∙ zero_add ℚ _
    where
      back : (g k : A) → g ≡ g ⊹ neg k ⊹ k
      back g k = solve order.ring (g ∷ k ∷ []) (var 0) (var 0 :+ :- var 1 :+ var 1) tt

  come_together : (x : ℕ) → Shrinks order (λ n. difference law one w₀ table h p n x) → ComeTogether law w₀ table h p x
  unfolding difference
  come_together x s = (s.most, λ n. apart_over n s.most (rw (value_up_to_claims, value_thinned n x) (s.sized n)))

-- ---- a law that ends: "negligible" is "zero at n"
zero_at : (n : ℕ) → Negligible (λ u. u n ≡ 𝟘)
zero_at n = record {
  same = λ u v e z. sym (e n) ∙ z;
  nothing = refl;
  plus = λ u v y z. ap₂ ◌⊹◌ y z ∙ ℚ.add_zero 𝟘;
  times = λ c u z. ap (λ (v : A). value c · v) z ∙ ℚ.mul_zero (value c);
}

no_claims : (law : Frequency) (w₀ : ℕ) (table : Severity) (p : Fraction) (n x : ℕ) → value (count_coefficient law n) ≡ 𝟘
    → claims law w₀ table p n x ≡ 𝟘
unfolding term
no_claims law w₀ table p n x e = ap (λ (v : A). value p · v · power_all ℚ (f w₀ table) n x) e ∙ simp ring_units

pub finite_is_thinned : FiniteIsThinned
finite_is_thinned law one w₀ table h p n ends x = eq_of_value (value_up_to_claims law w₀ table p n x
    ∙ none_apart law one w₀ table h p n x (difference_negligible law one w₀ table h p (zero_at n)
    (λ z. no_claims law w₀ table p (suc n) z (value_eq ends ∙ value_zero)) x)
    ∙ sym (value_thinned law one w₀ table h p n x))

pub limit_is_thinned : LimitIsThinned
limit_is_thinned law one w₀ table h inside p x = come_together law one w₀ table h p x
    (difference_negligible law one w₀ table h p shrinking (λ z. shrinks_shift order _ (claims_shrink law one w₀ table p inside z)) x)

-- ---- distributions, with A zero or more
below_one : (z : ℤ) (D w₀ W : ℕ) → pos 0 ≤ℤ z → 1 ≤ thinned_divisor D z w₀ W → nat_abs z * w₀ < D * W
below_one (pos m) D w₀ W l h = omega (
  signed,
  up_least (pos (D * W) -ℤ pos m *ℤ pos w₀) h,
  split_add (pos (D * W)) (neg_ℤ (pos m *ℤ pos w₀)),
  split_neg (pos m *ℤ pos w₀),
)
below_one (negsuc m) D w₀ W l h = absurd l.le

-- ---- and with A below zero: past |B| each count coefficient is the one before times a number below zero, so both are zero
nonpositive : (z : ℤ) (v : A) → z ≤ℤ negsuc 0 → 𝟘 ⊑ integer z · v → v ⊑ 𝟘
unfolding int
nonpositive (pos n) v l h = absurd l.le
nonpositive (negsuc n) v l h = cancel_le order (suc n) (NL.zero-lt-suc n) (rewritten order (neg_mono order h)
    (solve order.ring (nat ℚ (suc n) ∷ v ∷ []) (:- (:- var 0 :* var 1)) (var 0 :* var 1) tt)
    (neg_zero order.ring ∙ sym (ℚ.mul_zero (nat ℚ (suc n)))))

module _ (law : Frequency) (one : law.order ≡ 1) (negative : law.term_a 1 ≤ℤ negsuc 0)
    (chances : (n : ℕ) → whole (pos 0) ≼ count_coefficient law n) where
  chance : (n : ℕ) → 𝟘 ⊑ value (count_coefficient law n)
  chance n = rewritten order (value_le (chances n)) value_zero refl

  next_chance : (n : ℕ) → nat ℚ law.divisor · (nat ℚ (suc n) · value (count_coefficient law (suc n)))
      ≡ integer (law.term_a 1 *ℤ pos (suc n) +ℤ law.term_b 1) · value (count_coefficient law n)
  unfolding a b
  next_chance n =
      ap (λ (v : A). nat ℚ law.divisor · (nat ℚ (suc n) · v)) (sym (unit_times (value (count_coefficient law (suc n)))))
      ∙ ap (λ (v : A). nat ℚ law.divisor · v) (class_one law one (whole (pos 1)) n)
      ∙ spread (nat ℚ law.divisor) (nat ℚ (suc n)) (value (a law 1)) (value (b law 1)) (P law (whole (pos 1)) n)
      ∙ ap₂ (λ (u v : A). (u · nat ℚ (suc n) ⊹ v) · P law (whole (pos 1)) n)
      (value_over (law.term_a 1) law.divisor law.divisor_pos) (value_over (law.term_b 1) law.divisor law.divisor_pos)
      ∙ ap₂ ◌·◌ (sym (int_add order.ring (law.term_a 1 *ℤ pos (suc n)) (law.term_b 1)
      ∙ ap (λ (v : A). v ⊹ integer (law.term_b 1)) (int_mul order.ring (law.term_a 1) (pos (suc n))
      ∙ ap (λ (v : A). integer (law.term_a 1) · v) (int_pos order.ring (suc n))))) (unit_times (value (count_coefficient law n)))
    where
      unit_times : (v : A) → value (whole (pos 1)) · v ≡ v
      unit_times v = ap (λ (u : A). u · v) value_one ∙ one_mul ℚ v

      spread : (d n α β p : A) → d · ((n · α ⊹ β) · p) ≡ (d · α · n ⊹ d · β) · p
      spread d n α β p = simp ring

  ends : (n : ℕ) → nat_abs (law.term_b 1) ≤ n → value (count_coefficient law n) ≡ 𝟘
  ends n l = order.le_antisymm (nonpositive (law.term_a 1 *ℤ pos (suc n) +ℤ law.term_b 1) _ low (rewritten order
      (order.mul_nonneg (nat_nonneg order law.divisor) (order.mul_nonneg (nat_nonneg order (suc n)) (chance (suc n))))
      refl (next_chance n))) (chance n)
    where
      low : (law.term_a 1 *ℤ pos (suc n) +ℤ law.term_b 1) ≤ℤ negsuc 0
      low = omega (
        signed,
        split_add (law.term_a 1 *ℤ pos (suc n)) (law.term_b 1),
        split_mul (law.term_a 1) (pos (suc n)),
        split_size (law.term_b 1),
        NL.mul-le-mul_right (suc n) (split_le negative),
      )

below : (z : ℤ) → ¬ (pos 0 ≤ℤ z) → z ≤ℤ negsuc 0
below (pos n) f = absurd (f (omega signed))
below (negsuc n) f = omega signed

pub distribution_is_thinned : DistributionIsThinned
distribution_is_thinned law one w₀ table h chances p x = by (≤ℤ-dec (pos 0) (law.term_a 1))
  where
    by : Dec (pos 0 ≤ℤ law.term_a 1) → ComeTogether law w₀ table h p x
    by (yes l) = limit_is_thinned law one w₀ table h (below_one (law.term_a 1) law.divisor w₀ (all_weight w₀ table.weights) l h) p x
    by (no l) = come_together law one w₀ table h p x (difference_negligible law one w₀ table h p shrinking
        (λ z. shrinks_shift order _ (claims_end law w₀ table p (nat_abs (law.term_b 1)) z
        (λ n k. no_claims law w₀ table p n z (ends law one (below (law.term_a 1) l) chances n k)))) x)
