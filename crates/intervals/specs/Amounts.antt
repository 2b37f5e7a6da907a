-- The exact amounts that a low row and a high row enclose.
use Rattle.std.specs.Prelude.{List, ℕ, ◌<◌, ℤ, pos, length, get_or}
use Rattle.algebra.specs.Fraction.{Fraction, whole, ◌≼◌}

-- a row's entries, as amounts
abbrev pub entries : List ℤ → ℕ → Fraction
entries row x = whole (get_or row x (pos 0))

-- at each total of the rows the amount lies from low to high
abbrev pub Enclose : List ℤ → List ℤ → (ℕ → Fraction) → Type 0
Enclose low high amount = (x : ℕ) → x < length low → (entries low x ≼ amount x) × (amount x ≼ entries high x)
