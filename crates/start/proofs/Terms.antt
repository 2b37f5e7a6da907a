-- The terms of the series: each lies from 0 to U, none is larger than the one before, and term j is at most j wide. Their signed sums are
-- what the code's loop adds up.
use mathlib.Core.Path.{◌≡◌, refl}
use mathlib.Core.Bool.{Bool, true, false, cond}
use Prim.Native.Nat.{ℕ, zero, suc, ◌*◌, ◌≤◌, ◌<◌, zero-le}
use native.Mathlib.Nat as NL
use native.Mathlib.Omega.{arith}
use lib.IntN.{ℤ, pos, neg_ℤ, nat_abs, ◌+ℤ◌, ◌-ℤ◌}
use lib.Signed.{◌≤ℤ◌, ≤ℤ_refl}
use Rattle.algebra.specs.Sum.{accumulate, sumℤ}
use Rattle.algebra.specs.Alternating.{is_even}
use Rattle.algebra.proofs.Natural.{sumℕ_most}
use Rattle.algebra.proofs.Size.{size_neg, size_sum}
use Rattle.algebra.proofs.Integer.{signed, split_add, pos_mono}
use Rattle.model.specs.Limits.{unit}
use Rattle.outward.specs.declared.Interval.{Interval}
use Rattle.start.specs.Step.{certain, exactly, InUnit}
use Rattle.start.specs.Call.{term, low_part, high_part}
use Rattle.start.specs.Room.{Proper, plus_part, sum_of_terms, SumRoom}
use Rattle.start.proofs.Step.{Stepped, stepped}
use Rattle.start.proofs.Sizes.{in_unit_sizes}

pub certain_in_unit : InUnit certain
certain_in_unit = record { nonneg = pos_mono zero-le; in_order = ≤ℤ_refl _; at_most = ≤ℤ_refl _ }

pub plus_even : (j : ℕ) (term sum : Interval) → is_even j ≡ true
    → plus_part j term sum ≡ record { low = sum.low +ℤ term.low; high = sum.high +ℤ term.high }
unfolding plus_part
plus_even j term sum e = rw e

pub plus_odd : (j : ℕ) (term sum : Interval) → is_even j ≡ false
    → plus_part j term sum ≡ record { low = sum.low -ℤ term.high; high = sum.high -ℤ term.low }
unfolding plus_part
plus_odd j term sum e = rw e

module _ (q s : ℕ) (qs : q < s) (s_most : s ≤ 1000) where
  pub term_proper : (j : ℕ) → 1 ≤ j → j ≤ 13 → Proper (exactly q (s * j))
  term_proper j j_pos j_most = record {
    divisor_pos = NL.mul-pos (NL.lt_of_le_of_lt zero-le qs) j_pos;
    divisor_most = omega (arith, NL.mul-le-mul s_most j_most);
    in_order = NL.le_refl q;
    at_most_one = omega (arith, NL.mul-le-mul_left s j_pos);
  }

  pub term_in_unit : (j : ℕ) → j ≤ 13 → InUnit (term q s j)
  unfolding term
  term_in_unit zero h = certain_in_unit
  term_in_unit (suc j) h = (stepped _ (term_proper (suc j) (omega arith) h) (term q s j) (term_in_unit j (omega arith))).in_unit

  term_step : (j : ℕ) → suc j ≤ 13 → Stepped (exactly q (s * suc j)) (term q s j)
  term_step j h = stepped _ (term_proper (suc j) (omega arith) h) (term q s j) (term_in_unit j (omega arith))

  pub term_shrinks : (j : ℕ) → suc j ≤ 13 → (term q s (suc j)).high ≤ℤ (term q s j).high
  unfolding term
  term_shrinks j h = (term_step j h).shrinks

  pub term_width : (j : ℕ) → j ≤ 13 → (term q s j).high ≤ℤ ((term q s j).low +ℤ pos j)
  unfolding term
  term_width zero h = ≤ℤ_refl _
  term_width (suc j) h = omega (
    signed,
    (term_step j h).widens refl,
    term_width j (omega arith),
    split_add (term q s (suc j)).high (term q s j).low,
    split_add (term q s (suc j)).low (term q s j).high,
    split_add ((term q s (suc j)).low +ℤ (term q s j).high) (pos 1),
    split_add (term q s j).low (pos j),
    split_add (term q s (suc j)).low (pos (suc j)),
  )

  -- ---- sums
  pub plus_part_lem : (j : ℕ) → plus_part j (term q s j) (sum_of_terms q s j) ≡ sum_of_terms q s (suc j)
  unfolding plus_part sum_of_terms accumulate
  plus_part_lem j = by (is_even j) (sumℤ j (low_part q s)) (sumℤ j (high_part q s))
    where
      t : Interval
      t = term q s j

      by : (b : Bool) (l h : ℤ)
          → ◌≡◌ {A = Interval} (cond b (record { low = l +ℤ t.low; high = h +ℤ t.high })
          (record { low = l +ℤ neg_ℤ t.high; high = h +ℤ neg_ℤ t.low }))
          (record { low = l +ℤ cond b t.low (neg_ℤ t.high); high = h +ℤ cond b t.high (neg_ℤ t.low) })
      by true l h = refl
      by false l h = refl

  part_size : (j : ℕ) → j ≤ 13 → (nat_abs (low_part q s j) ≤ unit) × (nat_abs (high_part q s j) ≤ unit)
  part_size j h = by (is_even j)
    where
      t : Interval
      t = term q s j

      by : (b : Bool) → (nat_abs (cond b t.low (neg_ℤ t.high)) ≤ unit) × (nat_abs (cond b t.high (neg_ℤ t.low)) ≤ unit)
      by true = let z = in_unit_sizes _ (term_in_unit j h) in (z.low_size, z.high_size)
      by false =
          let z = in_unit_sizes _ (term_in_unit j h) in
          (rw (size_neg (term q s j).high) z.high_size, rw (size_neg (term q s j).low) z.low_size)

  -- j numbers of size U at most
  sum_size : (j : ℕ) → j ≤ 13 → (f : ℕ → ℤ) → ((i : ℕ) → i ≤ 13 → nat_abs (f i) ≤ unit) → nat_abs (sumℤ j f) ≤ 13 * unit
  sum_size j h f small = omega (
    arith,
    size_sum j f (λ _. unit) (λ i l. small i (omega arith)),
    sumℕ_most j unit (λ _. unit) (λ i l. NL.le_refl unit),
    NL.mul-le-mul_right unit h,
  )

  pub sum_room : (j : ℕ) → j ≤ 13 → SumRoom (sum_of_terms q s j)
  unfolding sum_of_terms
  sum_room j h = record {
    low_size = sum_size j h (low_part q s) (λ i l. (part_size i l).0);
    high_size = sum_size j h (high_part q s) (λ i l. (part_size i l).1);
  }
