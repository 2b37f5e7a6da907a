-- The start for a mean holds every product of partial sums. The terms' intervals hold U times the exact terms; these fall, so that every
-- partial sum to term 13 or further lies from that to term 13 to that to term 12; then one step for each partial sum for -1.
use mathlib.Core.Path.{◌≡◌, refl, sym, ◌∙◌, ap}
use mathlib.Core.Bool.{Bool, true, false, cond}
use mathlib.Core.List.{[], ◌∷◌}
use Prim.Native.Nat.{ℕ, zero, suc, ◌+◌, ◌*◌, ◌-◌, ◌/◌, ◌%◌, ◌≤◌, ◌<◌}
use native.Mathlib.Nat as NL
use native.Mathlib.Omega.{arith}
use lib.Dec.{lit≤}
use lib.IntN.{pos, neg_ℤ}
use Rattle.algebra.specs.Semiring.{nat}
use Rattle.algebra.specs.Sum.{accumulate}
use Rattle.algebra.specs.Alternating.{is_even, alternating}
use Rattle.algebra.specs.Fraction.{Fraction, over, whole, ◌⊕◌, ◌⊗◌, ◌≼◌, zero_to, product}
use Rattle.algebra.specs.Solver.{var, null, ◌:+◌, ◌:*◌, :-◌}
use Rattle.algebra.proofs.Semiring.{mul_left_comm}
use Rattle.algebra.proofs.Order.{rewritten, add_mono, neg_mono, mul_mono, nat_nonneg, nat_mono, cancel_le}
use Rattle.algebra.proofs.Solver.{solve}
use Rattle.algebra.proofs.Alternating.{alternating_one, alternating_cong, alternating_add, alternating_bounds}
use Rattle.algebra.proofs.Value.{order, ℚ, value, value_le, value_times, value_nat, value_product_zero, value_product_suc}
use Rattle.algebra.proofs.Value.{Within, of_within, within_zero, within_add, within_neg}
use Rattle.model.specs.Limits.{unit as U}
use Rattle.outward.specs.declared.Interval.{Interval}
use Rattle.start.specs.Step.{exactly, times, repeated}
use Rattle.start.specs.Call.{term, series, exp_minus_one, of_mean}
use Rattle.start.specs.Exponential.{factorial, exponential_term, exponential}
use Rattle.start.specs.Room.{sum_of_terms}
use Rattle.start.specs.Holds.{rest_sum, whole_product, series_units, HoldsSeries}
use Rattle.start.proofs.Held.{Held, certain_held, times_held, times_held_exactly}
use Rattle.start.proofs.Exponential.{scaled_term, scaled_zero, scaled_suc, exponential_value}
use Rattle.start.proofs.Accepted.{mean_accepted}
open order use {◌⊑◌}
open ℚ use {carrier as A, 𝟘, ◌⊹◌, ◌·◌}
open order.ring use {neg}

infix 4 ◌⊑◌
infixl 6 ◌⊹◌
infixl 7 ◌·◌
-- the first n numbers of a, with alternating signs
abbrev alternate : ℕ → (ℕ → A) → A
alternate = alternating order.ring

-- ---- the exact terms of a rest q/s of at most 1, times U
module _ (q s : ℕ) (h : 1 ≤ s) (qs : q ≤ s) where
  abbrev b : ℕ → A
  b = scaled_term q s h

  d_pos : (j : ℕ) → 1 ≤ s * suc j
  d_pos j = NL.mul-pos h (NL.zero-lt-suc j)

  nonneg : (j : ℕ) → 𝟘 ⊑ b j
  nonneg zero = rewritten order (nat_nonneg order U) refl (sym (scaled_zero q s h))
  nonneg (suc j) = cancel_le order (s * suc j) (d_pos j) (rewritten order (order.mul_nonneg (nat_nonneg order q) (nonneg j))
      (sym (ℚ.mul_zero (nat ℚ (s * suc j)))) (sym (scaled_suc q s h j)))

  falls : (j : ℕ) → b (suc j) ⊑ b j
  falls j = cancel_le order (s * suc j) (d_pos j) (rewritten order (mul_mono order (b j) (nonneg j) (nat_mono order most))
      (ℚ.mul_comm (b j) (nat ℚ q) ∙ sym (scaled_suc q s h j)) (ℚ.mul_comm (b j) (nat ℚ (s * suc j))))
    where
      most : q ≤ s * suc j
      most = omega (arith, NL.mul-le-mul_left s (NL.zero-lt-suc j))

  -- an alternating sum of them lies from 0 to the first
  bounds : (n m : ℕ) → (𝟘 ⊑ alternate (suc n) (λ i. b (m + i))) × (alternate (suc n) (λ i. b (m + i)) ⊑ b (m + 0))
  bounds n m =
      let k = alternating_bounds order 𝟘 (order.le_refl 𝟘) n (λ i. b (m + i)) (λ i l. nonneg (m + i))
      (λ i l. rewritten order (falls (m + i)) (ap b (sym (NL.add-suc m i))) (sym (ℚ.add_zero (b (m + i))))) in (
        rewritten order k.0 (none (nat ℚ n)) refl,
        rewritten order k.1 refl (kept (b (m + 0)) (nat ℚ n)),
      )
    where
      none : (v : A) → neg (v · 𝟘) ≡ 𝟘
      none v = solve order.ring (v ∷ []) (:- (var 0 :* null)) null tt

      kept : (w v : A) → w ⊹ v · 𝟘 ≡ w
      kept w v = solve order.ring (w ∷ v ∷ []) (var 0 :+ var 1 :* null) (var 0) tt

  -- ---- partial sums
  further : (k : ℕ) → alternate (13 + suc k) b ≡ alternate 13 b ⊹ neg (alternate (suc k) (λ i. b (13 + i)))
  further k = alternating_add order.ring 13 (suc k) b

  to_13 : alternate 14 b ≡ alternate 13 b ⊹ neg (b (13 + 0))
  to_13 = further 0 ∙ ap (λ (v : A). alternate 13 b ⊹ neg v) (alternating_one order.ring (λ i. b (13 + i)))

  -- every partial sum to term 13 or further lies from that to term 13 to that to term 12
  sandwich : (n : ℕ) → 13 ≤ n → (alternate 14 b ⊑ alternate (suc n) b) × (alternate (suc n) b ⊑ alternate 13 b)
  sandwich n l = rw here (
    rewritten order (add_mono order (order.le_refl first) (neg_mono order (bounds (n - 13) 13).1)) (sym to_13) (sym (further (n - 13))),
    rewritten order (add_mono order (order.le_refl first) (neg_mono order (bounds (n - 13) 13).0)) (sym (further (n - 13))) (plain first),
  )
    where
      first : A
      first = alternate 13 b

      here : suc n ≡ 13 + suc (n - 13)
      here = omega arith

      plain : (v : A) → v ⊹ neg 𝟘 ≡ v
      plain v = solve order.ring (v ∷ []) (var 0 :+ :- null) (var 0) tt

  sum_nonneg : (n : ℕ) → 𝟘 ⊑ alternate (suc n) b
  sum_nonneg n = rewritten order (bounds n 0).0 refl (alternating_cong order.ring (suc n) (λ i. ap b (NL.zero-add i)))

  -- ---- what the code's terms and sums hold
  term_held : (j : ℕ) → Held (term q s j) (b j)
  unfolding term
  term_held zero = rw (scaled_zero q s h) certain_held
  term_held (suc j) = times_held_exactly (exactly q (s * suc j)) (d_pos j) (term q s j) (b j) (b (suc j)) (term_held j) refl
      (scaled_suc q s h j)

  sum_held : (n : ℕ) → Held (sum_of_terms q s n) (alternate n b)
  unfolding alternating sum_of_terms accumulate
  sum_held zero = within_zero
  sum_held (suc n) = within_add (sum_held n) (part (is_even n))
    where
      t : Interval
      t = term q s n

      part : (e : Bool) → Within (cond e t.low (neg_ℤ t.high)) (cond e t.high (neg_ℤ t.low)) (cond e (b n) (neg (b n)))
      part true = term_held n
      part false = within_neg (term_held n)

  series_held : (n : ℕ) → 13 ≤ n → Held (series q s) (alternate (suc n) b)
  unfolding series sum_of_terms
  series_held n l = record {
    below = order.le_trans (sum_held 14).below (sandwich n l).0;
    above = order.le_trans (sandwich n l).1 (sum_held 13).above;
  }

-- ---- the constants, by comparing fractions
abbrev minus_one : Fraction
minus_one = whole (neg_ℤ (pos 1))

low_constant : whole (pos exp_minus_one.low) ≼ whole (pos U) ⊗ exponential minus_one 13
unfolding exponential exponential_term product factorial zero_to accumulate ◌⊗◌ ◌⊕◌ whole over
low_constant = record { across = record { le = tt } }

high_constant : whole (pos U) ⊗ exponential minus_one 12 ≼ whole (pos exp_minus_one.high)
unfolding exponential exponential_term product factorial zero_to accumulate ◌⊗◌ ◌⊕◌ whole over
high_constant = record { across = record { le = tt } }

-- ---- a partial sum for -1, to term 13 or further
abbrev one : ℕ → A
one n = value (exponential minus_one n)

one_value : (n : ℕ) → value (whole (pos U) ⊗ exponential minus_one n) ≡ alternate (suc n) (scaled_term 1 1 (NL.le_refl 1))
unfolding whole
one_value n = exponential_value 1 1 (NL.le_refl 1) n

one_scaled : (n : ℕ) → value (whole (pos U) ⊗ exponential minus_one n) ≡ nat ℚ U · one n
one_scaled n = value_times (whole (pos U)) (exponential minus_one n) ∙ ap (λ (v : A). v · one n) (value_nat U)

module _ (n : ℕ) (l : 13 ≤ n) where
  one_low : nat ℚ exp_minus_one.low ⊑ nat ℚ U · one n
  one_low = order.le_trans (rewritten order (value_le low_constant) (value_nat exp_minus_one.low) (one_value 13))
      (rewritten order (sandwich 1 1 (NL.le_refl 1) (NL.le_refl 1) n l).0 refl (sym (one_value n) ∙ one_scaled n))

  one_high : nat ℚ U · one n ⊑ nat ℚ exp_minus_one.high
  one_high = order.le_trans (rewritten order (sandwich 1 1 (NL.le_refl 1) (NL.le_refl 1) n l).1 (sym (one_value n) ∙ one_scaled n) refl)
      (rewritten order (value_le high_constant) (one_value 12) (value_nat exp_minus_one.high))

  one_nonneg : 𝟘 ⊑ one n
  one_nonneg = cancel_le order U (lit≤ tt) (rewritten order (order.le_trans (nat_nonneg order exp_minus_one.low) one_low)
      (sym (ℚ.mul_zero (nat ℚ U))) refl)

  -- one step
  one_held : (ends : Interval) (x : A) → 𝟘 ⊑ x → Held ends x → Held (times exp_minus_one ends) (x · one n)
  one_held ends x p k = times_held exp_minus_one (lit≤ tt) ends x (x · one n) k
      (rewritten order (mul_mono order x p one_low) (ℚ.mul_comm x (nat ℚ exp_minus_one.low)) (mul_left_comm ℚ x (nat ℚ U) (one n)))
      (rewritten order (mul_mono order x p one_high) (mul_left_comm ℚ x (nat ℚ U) (one n)) (ℚ.mul_comm x (nat ℚ exp_minus_one.high)))

-- ---- their product, which is not below 0 either
module _ (ends : Interval) (x : A) (p : 𝟘 ⊑ x) (k : Held ends x) (ns : ℕ → ℕ) where
  next : (v : ℕ) → x · value (whole_product v ns) · one (ns v) ≡ x · value (whole_product (suc v) ns)
  next v = ℚ.mul_assoc x (value (whole_product v ns)) (one (ns v)) ∙ ap (λ (w : A). x · w) (sym (value_product_suc v _))

  none : x ≡ x · value (whole_product 0 ns)
  none = sym (ap (λ (w : A). x · w) (value_product_zero _) ∙ ℚ.mul_one x)

  product_nonneg : (v : ℕ) → ((i : ℕ) → i < v → 13 ≤ ns i) → 𝟘 ⊑ x · value (whole_product v ns)
  product_nonneg zero l = rewritten order p refl none
  product_nonneg (suc v) l = rewritten order
      (order.mul_nonneg (product_nonneg v (λ i m. l i (omega arith))) (one_nonneg (ns v) (l v (omega arith)))) refl (next v)

  product_held : (v : ℕ) → ((i : ℕ) → i < v → 13 ≤ ns i) → Held (repeated exp_minus_one v ends) (x · value (whole_product v ns))
  unfolding repeated
  product_held zero l = rw (sym none) k
  product_held (suc v) l = rw (sym (next v))
      (one_held (ns v) (l v (omega arith)) (repeated exp_minus_one v ends) (x · value (whole_product v ns))
      (product_nonneg v (λ i m. l i (omega arith))) (product_held v (λ i m. l i (omega arith))))

pub holds_series : HoldsSeries
unfolding of_mean
holds_series r s e h n ns l each =
    let k = mean_accepted r s e in
    let below = NL.le_of_lt k.rest.below in
    rw k.is (of_within _ _ (series_units r s h n ns) (rw units
    (product_held (series (r % s) s) (alternate (suc n) (scaled_term (r % s) s h)) (sum_nonneg (r % s) s h below n)
    (series_held (r % s) s h below n l) ns (r / s) each)))
  where
    units : value (series_units r s h n ns) ≡ alternate (suc n) (scaled_term (r % s) s h) · value (whole_product (r / s) ns)
    units = value_times (whole (pos U)) (rest_sum r s h n ⊗ whole_product (r / s) ns)
        ∙ ap (λ (v : A). value (whole (pos U)) · v) (value_times (rest_sum r s h n) (whole_product (r / s) ns))
        ∙ sym (ℚ.mul_assoc (value (whole (pos U))) (value (rest_sum r s h n)) (value (whole_product (r / s) ns)))
        ∙ ap (λ (v : A). v · value (whole_product (r / s) ns))
        (sym (value_times (whole (pos U)) (rest_sum r s h n)) ∙ exponential_value (r % s) s h n)
