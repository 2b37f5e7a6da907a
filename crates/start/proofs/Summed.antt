-- The series of a rest below 1 lies from 0 to U, and its low is at least 1. Of the low's terms the first two leave U less hi_1, which is at
-- least 100,000, and the others lose at most 13 each; of the high's terms the second and the third take off lo_1 less hi_2, which is large
-- unless the rest is 0, and then every term but the first is 0.
use mathlib.Core.Path.{◌≡◌, refl, ◌∙◌, ap}
use mathlib.Core.Bool.{Bool, true, false, not, cond}
use Prim.Native.Nat.{ℕ, zero, suc, ◌+◌, ◌*◌, ◌≤◌, ◌<◌, zero-le}
use native.Mathlib.Nat as NL
use native.Mathlib.Omega.{arith}
use lib.IntN.{ℤ, pos, neg_ℤ, ◌+ℤ◌, ◌*ℤ◌, *ℤ-zero}
use lib.Signed.{◌≤ℤ◌, ≤ℤ_refl}
use Rattle.algebra.specs.Semiring.{nat}
use Rattle.algebra.specs.Alternating.{is_even, alternating}
use Rattle.algebra.specs.Sum.{sumℤ}
use Rattle.algebra.proofs.Sum.{sum_cong, sum_suc}
use Rattle.algebra.proofs.Order.{sum_mono, neg_mono}
use Rattle.algebra.proofs.Alternating.{alternating_suc, alternating_bounds}
use Rattle.algebra.proofs.Integer.{integers, integer_order, signed, split_add, split_neg, ≤ℤ-trans, pos_mono, of_pos}
use Rattle.model.specs.Limits.{unit}
use Rattle.outward.specs.declared.Interval.{Interval}
use Rattle.outward.proofs.Division.{ceilℕ, ceil_pos}
use Rattle.start.specs.Step.{exactly, times, InUnit}
use Rattle.start.specs.Room.{Proper}
use Rattle.start.specs.Call.{term, low_part, high_part, series}
use Rattle.start.proofs.Step.{quotients, times_pos, lower, upper}
use Rattle.start.proofs.Terms.{term_proper, term_in_unit, term_shrinks, term_width}

-- one end of a term
abbrev picked : Bool → Interval → ℤ
picked b i = cond b i.low i.high

module _ (q s : ℕ) (qs : q < s) (s_most : s ≤ 1000) where
  abbrev t : ℕ → Interval
  t j = term q s j

  -- ---- the sums, as alternating sums of one end of each term
  abbrev lows : ℕ → ℤ
  lows j = picked (is_even j) (t j)

  abbrev highs : ℕ → ℤ
  highs j = picked (not (is_even j)) (t j)

  low_alternates : (n : ℕ) → sumℤ n (low_part q s) ≡ alternating integers n lows
  unfolding alternating
  low_alternates n = sum_cong integers.semiring n (λ j l. part (is_even j) (t j))
    where
      part : (b : Bool) (i : Interval) → cond b i.low (neg_ℤ i.high) ≡ cond b (picked b i) (neg_ℤ (picked b i))
      part true i = refl
      part false i = refl

  high_alternates : (n : ℕ) → sumℤ n (high_part q s) ≡ alternating integers n highs
  unfolding alternating
  high_alternates n = sum_cong integers.semiring n (λ j l. part (is_even j) (t j))
    where
      part : (b : Bool) (i : Interval) → cond b i.high (neg_ℤ i.low) ≡ cond b (picked (not b) i) (neg_ℤ (picked (not b) i))
      part true i = refl
      part false i = refl

  -- either end lies in its term
  within_term : (j : ℕ) → j ≤ 13 → (b : Bool) → ((t j).low ≤ℤ picked b (t j)) × (picked b (t j) ≤ℤ (t j).high)
  within_term j h true = (≤ℤ_refl _, (term_in_unit q s qs s_most j h).in_order)
  within_term j h false = ((term_in_unit q s qs s_most j h).in_order, ≤ℤ_refl _)

  -- a high is at most the low before it, and 13
  falls : (j : ℕ) → suc j ≤ 13 → (t (suc j)).high ≤ℤ ((t j).low +ℤ pos 13)
  falls j h = omega (
    signed,
    term_shrinks q s qs s_most j h,
    term_width q s qs s_most j (omega arith),
    split_add (t j).low (pos j),
    split_add (t j).low (pos 13),
  )

  -- the alternating sum of an end of each of the terms at 0, at 1, .., at n: at least minus the slacks
  tail : (e : ℤ) → pos 0 ≤ℤ e → (n : ℕ) (at : ℕ → ℕ) (b : ℕ → Bool) → ((i : ℕ) → i ≤ n → at i ≤ 13)
      → ((i : ℕ) → suc i ≤ n → (t (at (suc i))).high ≤ℤ ((t (at i)).low +ℤ e))
      → neg_ℤ (nat integers.semiring n *ℤ e) ≤ℤ alternating integers (suc n) (λ i. picked (b i) (t (at i)))
  tail e e_nonneg n at b most drops = (alternating_bounds integer_order e e_nonneg n (λ i. picked (b i) (t (at i)))
      (λ i l. ≤ℤ-trans (term_in_unit q s qs s_most (at i) (most i (omega arith))).nonneg (inside i (omega arith)).0)
      (λ i l. omega (
        signed,
        (inside (suc i) (omega arith)).1,
        drops i (omega arith),
        (inside i (omega arith)).0,
        split_add (t (at i)).low e,
        split_add (picked (b i) (t (at i))) e,
      ))).0
    where
      inside : (i : ℕ) → i ≤ n → ((t (at i)).low ≤ℤ picked (b i) (t (at i))) × (picked (b i) (t (at i)) ≤ℤ (t (at i)).high)
      inside i l = within_term (at i) (most i l) (b i)

  -- ---- the first terms
  first : Proper (exactly q (s * 1))
  first = term_proper q s qs s_most 1 (omega arith) (omega arith)

  second : Proper (exactly q (s * 2))
  second = term_proper q s qs s_most 2 (omega arith) (omega arith)

  abbrev p1 : ℕ
  p1 = lower (exactly q (s * 1)) first unit

  abbrev h1 : ℕ
  h1 = upper (exactly q (s * 1)) first unit

  abbrev h2 : ℕ
  h2 = upper (exactly q (s * 2)) second h1

  term_1 : t 1 ≡ record { low = pos p1; high = pos h1 }
  unfolding term
  term_1 = times_pos (exactly q (s * 1)) first unit unit

  low_1 : (t 1).low ≡ pos p1
  low_1 = ap (λ (i : Interval). i.low) term_1

  high_1 : (t 1).high ≡ pos h1
  high_1 = ap (λ (i : Interval). i.high) term_1

  term_2 : (t 2).high ≡ pos h2
  unfolding term
  term_2 = ap (λ (i : Interval). (times (exactly q (s * 2)) i).high) term_1
      ∙ ap (λ (i : Interval). i.high) (times_pos (exactly q (s * 2)) second p1 h1)

  h1_small : h1 + 100000 ≤ unit
  h1_small = NL.le_of_mul-le-mul_left {k = s} (omega (arith, (quotients (exactly q (s * 1)) first unit unit).q_lt))
      (NL.lt_of_le_of_lt zero-le qs)

  p1_large : 1 ≤ q → 1000 ≤ p1
  p1_large h = NL.lt_of_mul-lt-mul_left s (omega (arith, (quotients (exactly q (s * 1)) first unit unit).p_gt))

  h1_near : h1 ≤ p1 + 1
  h1_near = of_pos (rw term_1 at (term_width q s qs s_most 1 (omega arith)))

  h2_small : 2 * h2 ≤ h1 + 1
  h2_small = below (NL.lt_of_mul-lt-mul_left s
      (omega (arith, (quotients (exactly q (s * 2)) second p1 h1).q_lt, NL.mul-le-mul_left h1 less)))
    where
      less : q ≤ s
      less = omega arith

      below : 2 * h2 < h1 + 2 → 2 * h2 ≤ h1 + 1
      below h = omega arith

  -- ---- the low: U - hi_1 and an alternating sum
  low_large : pos 1 ≤ℤ sumℤ 14 (low_part q s)
  unfolding nat term
  low_large = omega (
    signed,
    low_alternates 14,
    alternating_suc integers 13 lows,
    alternating_suc integers 12 (λ i. lows (suc i)),
    split_add (pos unit) (neg_ℤ (alternating integers 13 (λ i. lows (suc i)))),
    split_neg (alternating integers 13 (λ i. lows (suc i))),
    split_add (t 1).high (neg_ℤ (alternating integers 12 (λ i. lows (suc (suc i))))),
    split_neg (alternating integers 12 (λ i. lows (suc (suc i)))),
    tail (pos 13) (pos_mono zero-le) 11 (λ i. suc (suc i)) (λ i. is_even (suc (suc i))) (λ i l. omega arith)
        (λ i l. falls (suc (suc i)) (omega arith)),
    high_1,
    h1_small,
  )

  -- ---- the high: U - lo_1 + hi_2 less an alternating sum
  high_small_some : 1 ≤ q → sumℤ 13 (high_part q s) ≤ℤ pos unit
  unfolding nat term
  high_small_some h = omega (
    signed,
    high_alternates 13,
    alternating_suc integers 12 highs,
    alternating_suc integers 11 (λ i. highs (suc i)),
    alternating_suc integers 10 (λ i. highs (suc (suc i))),
    split_add (pos unit) (neg_ℤ (alternating integers 12 (λ i. highs (suc i)))),
    split_neg (alternating integers 12 (λ i. highs (suc i))),
    split_add (t 1).low (neg_ℤ (alternating integers 11 (λ i. highs (suc (suc i))))),
    split_neg (alternating integers 11 (λ i. highs (suc (suc i)))),
    split_add (t 2).high (neg_ℤ (alternating integers 10 (λ i. highs (suc (suc (suc i)))))),
    split_neg (alternating integers 10 (λ i. highs (suc (suc (suc i))))),
    tail (pos 13) (pos_mono zero-le) 9 (λ i. suc (suc (suc i))) (λ i. not (is_even (suc (suc (suc i))))) (λ i l. omega arith)
        (λ i l. falls (suc (suc (suc i))) (omega arith)),
    low_1,
    term_2,
    p1_large h,
    h1_near,
    h2_small,
  )

  -- where every term but the first is 0: U less an alternating sum that loses nothing
  high_small_none : ((j : ℕ) → (t (suc j)).high ≡ pos 0) → sumℤ 13 (high_part q s) ≤ℤ pos unit
  unfolding nat term
  high_small_none none = omega (
    signed,
    high_alternates 13,
    alternating_suc integers 12 highs,
    split_add (pos unit) (neg_ℤ (alternating integers 12 (λ i. highs (suc i)))),
    split_neg (alternating integers 12 (λ i. highs (suc i))),
    tail (pos 0) (≤ℤ_refl _) 11 (λ i. suc i) (λ i. not (is_even (suc i))) (λ i l. omega arith)
        (λ i l. omega (signed, none (suc i), (term_in_unit q s qs s_most (suc i) (omega arith)).nonneg, split_add (t (suc i)).low (pos 0))),
  )

-- where the rest is 0, every term but the first is 0
none_high : (s j : ℕ) → (term 0 s (suc j)).high ≡ pos 0
unfolding term times ceilℕ
none_high s j = rw (*ℤ-zero (term 0 s j).high) (ceil_pos 0 (s * suc j))

high_small : (q s : ℕ) → q < s → s ≤ 1000 → sumℤ 13 (high_part q s) ≤ℤ pos unit
high_small zero s qs s_most = high_small_none 0 s qs s_most (none_high s)
high_small (suc q) s qs s_most = high_small_some (suc q) s qs s_most (omega arith)

module _ (q s : ℕ) (qs : q < s) (s_most : s ≤ 1000) where
  parts_in_order : (j : ℕ) → j ≤ 13 → low_part q s j ≤ℤ high_part q s j
  parts_in_order j h = by (is_even j)
    where
      ordered : (term q s j).low ≤ℤ (term q s j).high
      ordered = (term_in_unit q s qs s_most j h).in_order

      by : (b : Bool) → cond b (term q s j).low (neg_ℤ (term q s j).high) ≤ℤ cond b (term q s j).high (neg_ℤ (term q s j).low)
      by true = ordered
      by false = neg_mono integer_order ordered

  sums_in_order : sumℤ 14 (low_part q s) ≤ℤ sumℤ 13 (high_part q s)
  sums_in_order = omega (
    signed,
    sum_suc integers.semiring 13 (low_part q s),
    split_add (sumℤ 13 (low_part q s)) (neg_ℤ (term q s 13).high),
    split_neg (term q s 13).high,
    (term_in_unit q s qs s_most 13 (omega arith)).nonneg,
    (term_in_unit q s qs s_most 13 (omega arith)).in_order,
    sum_mono integer_order 13 {f = low_part q s} {g = high_part q s} (λ j l. parts_in_order j (omega arith)),
  )

  pub series_in_unit : InUnit (series q s)
  unfolding series
  series_in_unit = record {
    nonneg = ≤ℤ-trans (pos_mono zero-le) (low_large q s qs s_most);
    in_order = sums_in_order;
    at_most = high_small q s qs s_most;
  }

  pub series_high : pos 1 ≤ℤ (series q s).high
  unfolding series
  series_high = ≤ℤ-trans (low_large q s qs s_most) sums_in_order
