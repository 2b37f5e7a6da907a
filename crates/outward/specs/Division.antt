-- Division of an integer by a natural number of at least 1, rounded outward: down for a low, up for a high.
use Rattle.std.specs.Prelude.{◌≡◌, Bool, true, ℕ, ◌/◌, ◌%◌, ◌≤◌, eqb, ℤ, pos, negsuc, neg_ℤ, nat_abs, ◌+ℤ◌, ◌*ℤ◌, ◌≤ℤ◌, ◌<ℤ◌}

-- "divided and rounded down, towards minus infinity": -(a + 1) over n is -(a / n + 1)
unfoldable pub floor_div : ℤ → ℕ → ℤ
floor_div (pos a) n = pos (a / n)
floor_div (negsuc a) n = negsuc (a / n)

-- "divided and rounded up"
unfoldable pub ceil_div : ℤ → ℕ → ℤ
ceil_div z n = neg_ℤ (floor_div (neg_ℤ z) n)

-- the floor is the largest integer whose product with n is at most z
abbrev pub FloorIs : Type 0
FloorIs = (z : ℤ) (n : ℕ) → 1 ≤ n → ((pos n *ℤ floor_div z n) ≤ℤ z) × (z <ℤ (pos n *ℤ floor_div z n +ℤ pos n))

-- the ceiling is the smallest integer whose product with n is at least z
abbrev pub CeilIs : Type 0
CeilIs = (z : ℤ) (n : ℕ) → 1 ≤ n → (z ≤ℤ (pos n *ℤ ceil_div z n)) × ((pos n *ℤ ceil_div z n) <ℤ (z +ℤ pos n))

-- z over n leaves no remainder
unfoldable pub divides : ℕ → ℤ → Bool
divides n z = eqb (nat_abs z % n) 0

-- then either quotient times n is z
abbrev pub DividesIs : Type 0
DividesIs = (z : ℤ) (n : ℕ) → 1 ≤ n → divides n z ≡ true → (pos n *ℤ floor_div z n ≡ z) × (pos n *ℤ ceil_div z n ≡ z)

-- and nothing is left over of any multiple of n
abbrev pub DividesMultiple : Type 0
DividesMultiple = (q z : ℤ) (n : ℕ) → pos n *ℤ q ≡ z → divides n z ≡ true
