-- The checks of a low row and a high row, 31 and 33, as conditions of a call's list, and what a row has that passes them.
use Rattle.std.specs.Prelude.{◌≡◌, Bool, not, ◌||◌, cond, Option, Some, None, List, ℕ, ◌*◌, ◌≤◌, ◌<◌, eqb, ltb, ℤ, pos, nat_abs}
use Rattle.std.specs.Prelude.{length, get_or, position, zip}
use Rattle.std.specs.Int.Signed.{lt_z}
use Rattle.algebra.specs.Smallest.{smallest}
use Rattle.model.specs.Answer.{Condition, condition}
use Rattle.model.specs.Limits.{outside, unit, most_totals, beyond}

-- 31: "rows empty, unequal in length or longer than 501", by their lengths
abbrev pub wrong_lengths : ℕ → ℕ → Bool
wrong_lengths low high = outside 1 most_totals low || not (eqb low high)

-- by the number that the caller's reason has
abbrev pub lengths_condition : (number : ℕ) (low high : List ℤ) → Condition
lengths_condition number low high = condition (wrong_lengths (length low) (length high)) number 0

abbrev pub rows_condition : List ℤ → List ℤ → Condition
rows_condition low high = lengths_condition 31 low high

-- 33: "an entry outside -2U to 2U or low above high"
abbrev pub wrong_entry : ℤ → ℤ → Bool
wrong_entry low high = beyond (2 * unit) low || beyond (2 * unit) high || lt_z high low

abbrev pub wrong_at : List ℤ → List ℤ → ℕ → Bool
wrong_at low high x = wrong_entry (get_or low x (pos 0)) (get_or high x (pos 0))

-- "the smallest place x" with such an entry, and the rows' length where there is none
abbrev pub first_wrong : List ℤ → List ℤ → ℕ
first_wrong low high = smallest (wrong_at low high) (length low)

-- the same as the code finds it, among the pairs of a low and a high: none where there is none
abbrev pub first_wrong_entry : List ℤ → List ℤ → Option ℕ
first_wrong_entry low high = position (λ p. wrong_entry p.0 p.1) (zip low high)

abbrev pub FirstWrongFound : Type 0
FirstWrongFound = (low high : List ℤ) → length low ≡ length high
    → first_wrong_entry low high ≡ cond (ltb (first_wrong low high) (length low)) (Some (first_wrong low high)) None

abbrev pub entries_condition : (number : ℕ) (low high : List ℤ) → Condition
entries_condition number low high = condition (ltb (first_wrong low high) (length low)) number (first_wrong low high)

abbrev pub entry_condition : List ℤ → List ℤ → Condition
entry_condition low high = entries_condition 33 low high

-- a row whose sums fit 64 bits: it is short enough, and its entries are small
pub record Summable (row : List ℤ) : Type 0 where
  pub short : length row ≤ most_totals
  pub small : (x : ℕ) → x < length row → nat_abs (get_or row x (pos 0)) ≤ 2 * unit
