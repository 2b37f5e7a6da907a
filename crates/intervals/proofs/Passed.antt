-- What rows have that pass 31 and 33: they are equally long and short enough, and their entries small and in order.
use mathlib.Core.Path.{◌≡◌, sym}
use mathlib.Core.Bool.{false, not, ◌||◌}
use mathlib.Core.List.{List}
use Prim.Native.Nat.{ℕ, ◌*◌, ◌≤◌, ◌<◌}
use native.Mathlib.Nat as NL
use borrow.Author.Tests.{ltb-false, eqb-true, not-false}
use lib.Dec.{eqb}
use lib.IntN.{ℤ, pos, nat_abs}
use lib.Signed.{lt_z, ◌≤ℤ◌, lt_z_no}
use lib.ListN.{length, get_or}
use Rattle.algebra.specs.Smallest.{FailBelow}
use Rattle.algebra.proofs.Or.{or_left, or_right}
use Rattle.algebra.proofs.Smallest.{smallest_finds}
use Rattle.model.specs.Limits.{outside, unit, most_totals, beyond}
use Rattle.model.proofs.Tests.{within}
use Rattle.intervals.specs.Checks.{wrong_lengths, rows_condition, wrong_entry, wrong_at, first_wrong, entry_condition, Summable}

-- 31
pub same_length : (low high : ℕ) → wrong_lengths low high ≡ false → low ≡ high
same_length low high e = eqb-true low high (not-false (eqb low high) (or_right (outside 1 most_totals low) (not (eqb low high)) e))

short_enough : (low high : ℕ) → wrong_lengths low high ≡ false → low ≤ most_totals
short_enough low high e = (within 1 most_totals low (or_left (outside 1 most_totals low) (not (eqb low high)) e)).1

-- 33
right_entry : (low high : ℤ) → wrong_entry low high ≡ false → (nat_abs low ≤ 2 * unit) × (nat_abs high ≤ 2 * unit) × (low ≤ℤ high)
right_entry low high e =
    let ends = or_left (beyond (2 * unit) low || beyond (2 * unit) high) (lt_z high low) e in (
      ltb-false (2 * unit) (nat_abs low) (or_left (beyond (2 * unit) low) (beyond (2 * unit) high) ends),
      ltb-false (2 * unit) (nat_abs high) (or_right (beyond (2 * unit) low) (beyond (2 * unit) high) ends),
      lt_z_no (rw (or_right (beyond (2 * unit) low || beyond (2 * unit) high) (lt_z high low) e) tt),
    )

-- before the first wrong entry none is wrong
right_before : (low high : List ℤ) → FailBelow (wrong_at low high) (first_wrong low high)
right_before low high = (smallest_finds (wrong_at low high) (length low)).1

-- 31 and 33
pub record Passed (low high : List ℤ) : Type 0 where
  pub low_summable : Summable low
  pub high_summable : Summable high
  pub same : length low ≡ length high
  pub ordered : (x : ℕ) → x < length low → get_or low x (pos 0) ≤ℤ get_or high x (pos 0)

pub passed : (low high : List ℤ) → (rows_condition low high).holds ≡ false → (entry_condition low high).holds ≡ false → Passed low high
passed low high lengths none = record {
  low_summable = record { short = short_enough _ _ lengths; small = λ x l. (entries x l).0 };
  high_summable = record { short = rw (sym same) (short_enough _ _ lengths); small = λ x l. (entries x (rw (sym same) at l)).1 };
  same = same;
  ordered = λ x l. (entries x l).2;
}
  where
    same : length low ≡ length high
    same = same_length _ _ lengths

    entries : (x : ℕ) → x < length low → (nat_abs (get_or low x (pos 0)) ≤ 2 * unit) × (nat_abs (get_or high x (pos 0)) ≤ 2 * unit)
        × (get_or low x (pos 0) ≤ℤ get_or high x (pos 0))
    entries x l = right_entry _ _ (right_before low high x (NL.lt_of_lt_of_le l (ltb-false _ _ none)))
