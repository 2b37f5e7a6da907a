-- One line of a sheet: "22, the line due is missing or has no line end; 23, wrong keyword or wrong count of words; 24, a word that is no
-- number here".
use Rattle.std.specs.Prelude.{Bool, ◌&&◌, cond, List, [], ◌∷◌, ℕ, eqb, ℤ, pos, nat_abs, length, get_or, drop}
use Rattle.std.proofs.Math.Option.{Option, none, some}
use Rattle.algebra.specs.Table.{same_list}
use Rattle.text.specs.Bytes.{line_end}
use Rattle.text.specs.Lines.{before, after, has, words}
use Rattle.text.specs.Numbers.{number}
use Rattle.lines.specs.Keywords.{TERM}

-- what the line due gives: its numbers and the bytes after it, or the number of its refusal
pub data Line : Type 0 where
  numbers : List ℤ → List ℕ → Line
  faulty : ℕ → Line

-- a first number and the others, where all are there
abbrev pub both : Option ℤ → Option (List ℤ) → Option (List ℤ)
both (some z) (some zs) = some (z ∷ zs)
both (some z) none = none
both none zs = none

-- the numbers that words are, where each of them is one
unfoldable pub all_numbers : Bool → List (List ℕ) → Option (List ℤ)
all_numbers signs [] = some []
all_numbers signs (w ∷ ws) = both (number signs w) (all_numbers signs ws)

-- what the words after the keyword make of the line
abbrev pub of_numbers : Option (List ℤ) → List ℕ → Line
of_numbers (some zs) rest = numbers zs rest
of_numbers none rest = faulty 24

-- the words of a line, of which there is always one
abbrev pub of_words : Bool → List ℕ → ℕ → List (List ℕ) → List ℕ → Line
of_words signs keyword count [] rest = faulty 23
of_words signs keyword count (w ∷ ws) rest =
    cond (same_list eqb w keyword && eqb (length ws) count) (of_numbers (all_numbers signs ws) rest) (faulty 23)

-- the line at the start of s, which is to have a keyword and a count of numbers after it; `signs` says whether these may have a sign
unfoldable pub line : Bool → List ℕ → ℕ → List ℕ → Line
line signs keyword count s = cond (has line_end s) (of_words signs keyword count (words (before line_end s)) (after line_end s)) (faulty 22)

-- a line's number i; where no sign is allowed its size is the number itself
abbrev pub signed : List ℤ → ℕ → ℤ
signed zs i = get_or zs i (pos 0)

abbrev pub natural : List ℤ → ℕ → ℕ
natural zs i = nat_abs (signed zs i)

-- ---- by its bytes alone
-- a line's keyword, the words after it, and whether these may have a sign
abbrev pub keyword_of : List ℕ → List ℕ
keyword_of line = get_or (words line) 0 []

abbrev pub number_words : List ℕ → List (List ℕ)
number_words line = drop 1 (words line)

abbrev pub signs_on : List ℕ → Bool
signs_on line = same_list eqb (keyword_of line) TERM
