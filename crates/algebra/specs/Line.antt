-- A line over the natural numbers: its values next to each other, its negative, and where it is zero or more, as it rises or falls
-- throughout.
use Rattle.std.specs.Prelude.{◌≡◌, ℕ, ◌+◌, ◌/◌, ◌≤◌, ◌<◌, ℤ, pos, neg_ℤ, nat_abs, ◌+ℤ◌, ◌-ℤ◌, ◌*ℤ◌, ◌≤ℤ◌, ◌<ℤ◌}

abbrev pub line : ℤ → ℤ → ℕ → ℤ
line slope constant n = slope *ℤ pos n +ℤ constant

module _ (s c : ℤ) where
  -- the value before is the slope less
  abbrev pub LineBefore : Type 0
  LineBefore = (n : ℕ) → line s c (n + 1) -ℤ s ≡ line s c n

  -- the negative of a line is the line of the negatives
  abbrev pub LineNegative : Type 0
  LineNegative = (n : ℕ) → line (neg_ℤ s) (neg_ℤ c) n ≡ neg_ℤ (line s c n)

  -- zero or more at a, and so later where it does not fall
  abbrev pub LineLater : Type 0
  LineLater = (a b : ℕ) → pos 0 ≤ℤ s → a ≤ b → pos 0 ≤ℤ line s c a → pos 0 ≤ℤ line s c b

  -- and where it falls, for as many places as its slope goes into it
  abbrev pub LineAsFar : Type 0
  LineAsFar = (a b : ℕ) → s <ℤ pos 0 → pos 0 ≤ℤ line s c a → b ≤ a + nat_abs (line s c a) / nat_abs s → pos 0 ≤ℤ line s c b

  -- but no further
  abbrev pub LinePast : Type 0
  LinePast = (a b : ℕ) → s <ℤ pos 0 → pos 0 ≤ℤ line s c a → a + nat_abs (line s c a) / nat_abs s < b → line s c b <ℤ pos 0
