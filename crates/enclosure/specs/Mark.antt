-- Marks: whether an entry is exact.
use Rattle.std.specs.Prelude.{Bool, true, ◌&&◌, List, ℕ, zero, suc, ◌+◌, ◌-◌, min, ℤ, pos, negsuc, length, get_or}
use Rattle.algebra.specs.Sum.{all_of}
use Rattle.algebra.specs.Table.{same_integer}
use Rattle.model.specs.Mark.{is_exact}

-- a row of numbers, and of marks, by total
abbrev pub number_in : List ℤ → ℕ → ℤ
number_in row z = get_or row z (pos 0)

abbrev pub exact_in : List ℤ → ℕ → Bool
exact_in row z = is_exact (number_in row z)

-- "every entry used with a nonzero factor and weight is exact and, under a negative factor, has equal ends", of one entry
abbrev pub keeps_exact : (factor low high : ℤ) → (exact : Bool) → Bool
keeps_exact (pos zero) low high exact = true
keeps_exact (pos (suc n)) low high exact = exact
keeps_exact (negsuc n) low high exact = exact && same_integer low high

-- of the entry that severity y + 1 reads at total x
abbrev pub term_keeps : (ℕ → ℤ) → ℕ → (low high : ℕ → ℤ) → (ℕ → Bool) → ℕ → Bool
term_keeps factor x low high exact y = keeps_exact (factor y) (low (x - (y + 1))) (high (x - (y + 1))) (exact (x - (y + 1)))

-- of all entries of one term
abbrev pub term_exact : (ℕ → ℤ) → ℕ → List ℕ → (low high : ℕ → ℤ) → (ℕ → Bool) → Bool
term_exact factor x weights low high exact = all_of (min x (length weights)) (term_keeps factor x low high exact)
