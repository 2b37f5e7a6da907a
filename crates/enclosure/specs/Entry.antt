-- Entries of a row, and what the outward rule does with them.
use Rattle.std.specs.Prelude.{◌≡◌, Bool, cond, ◌&&◌, ◌||◌, ℕ, ◌*◌, ltb, ℤ, pos, negsuc, neg_ℤ, nat_abs, ◌+ℤ◌, ◌*ℤ◌}
use Rattle.std.specs.Int.Signed.{lt_z}
use Rattle.std.specs.Int.{w64}
use Rattle.std.proofs.Common.{SFits}
use Rattle.algebra.specs.Sum.{accumulate}
use Rattle.model.specs.Limits.{unit, beyond}
use Rattle.outward.specs.Division.{floor_div, ceil_div, divides}
use Rattle.enclosure.specs.declared.Entry.{Entry}

-- ---- sums of entries, column by column
abbrev pub none : Entry
none = record { low = pos 0; high = pos 0; bound = pos 0 }

abbrev pub plus : Entry → Entry → Entry
plus e f = record { low = e.low +ℤ f.low; high = e.high +ℤ f.high; bound = e.bound +ℤ f.bound }

-- the negatives of the numbers from low to high are those from -high to -low
abbrev pub opposite : Entry → Entry
opposite e = record { low = neg_ℤ e.high; high = neg_ℤ e.low; bound = e.bound }

abbrev pub minus : Entry → Entry → Entry
minus e f = plus e (opposite f)

-- f 0 + f 1 + .. + f (n - 1)
abbrev pub sum_of : ℕ → (ℕ → Entry) → Entry
sum_of = accumulate none plus

-- an entry whose numbers fit 64 signed bits
pub record EntryFits (e : Entry) : Type 0 where
  pub low : SFits w64 e.low
  pub high : SFits w64 e.high
  pub bound : SFits w64 e.bound

-- ---- a factor times an entry
-- "For the low sum, a factor that is zero or more takes the entry's low, a negative factor its high."
abbrev pub low_part : ℤ → Entry → ℤ
low_part (pos n) e = pos n *ℤ e.low
low_part (negsuc n) e = negsuc n *ℤ e.high

-- "The high sum is the other way about."
abbrev pub high_part : ℤ → Entry → ℤ
high_part (pos n) e = pos n *ℤ e.high
high_part (negsuc n) e = negsuc n *ℤ e.low

-- "the factors' sizes times the entries' bounds"
abbrev pub bound_part : ℤ → Entry → ℤ
bound_part f e = pos (nat_abs f) *ℤ e.bound

unfoldable pub scaled : ℤ → Entry → Entry
scaled f e = record { low = low_part f e; high = high_part f e; bound = bound_part f e }

-- ---- division
-- what rounding may add to the gap. Wish 4: "Add the one only where the divisor is above 1", whether a remainder is left or not
unfoldable pub allowance : ℕ → ℤ
allowance d = cond (ltb 1 d) (pos 1) (pos 0)

-- "Low is the low sum divided and rounded down, towards minus infinity. High is the high sum divided and rounded up. Each sum is divided
-- once. Bound is the sum of the factors' sizes times the entries' bounds, divided by the same divisor, rounded up, plus one."; the one is
-- the allowance
unfoldable pub rounded : ℕ → Entry → Entry
rounded d s = record { low = floor_div s.low d; high = ceil_div s.high d; bound = ceil_div s.bound d +ℤ allowance d }

-- "neither sum's division left a remainder", of the low sum and the high sum
abbrev pub divides_sums : ℕ → Entry → Bool
divides_sums d s = divides d s.low && divides d s.high

-- the bound after a division comes from the bound's sum and the divisor, whatever low and high are
abbrev pub BoundAlone : Type 0
BoundAlone = (d : ℕ) (s s' : Entry) → s.bound ≡ s'.bound → (rounded d s).bound ≡ (rounded d s').bound

-- divided by 1, sums stay as they are, and nothing is added to their bound: "no rounding, no allowance"
abbrev pub DividedByOne : Type 0
DividedByOne = (s : Entry) → rounded 1 s ≡ s

-- ---- faults
-- "a low or high .. lies outside -2U to 2U"
abbrev pub out_of_range : Entry → Bool
out_of_range e = beyond (2 * unit) e.low || beyond (2 * unit) e.high

-- "a bound .. is above U"
abbrev pub bound_too_large : Entry → Bool
bound_too_large e = lt_z (pos unit) e.bound
