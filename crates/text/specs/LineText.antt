-- Lines of numbers as text, in a sheet and in the program's table alike.
use Rattle.std.specs.Prelude.{◌≡◌, true, false, List, [], ◌∷◌, ◌++◌, map, ℕ, ℤ}
use Rattle.text.specs.Bytes.{line_end}
use Rattle.text.specs.Lines.{before, after, has, IsLines, spaced}
use Rattle.text.specs.Numbers.{decimal}

-- a word and numbers, in decimal, with single spaces, and a line end
unfoldable pub line_text : List ℕ → List ℤ → List ℕ
line_text word numbers = word ++ (spaced (map decimal numbers) ++ (line_end ∷ []))

-- ---- what is proved of them
-- a line of numbers is one line, where its word is on one
abbrev pub LineTextIsLine : Type 0
LineTextIsLine = (word : List ℕ) (numbers : List ℤ) → has line_end word ≡ false → IsLines 1 (line_text word numbers)

-- it is the first line of a text that begins with it
abbrev pub LineTextFirst : Type 0
LineTextFirst = (word : List ℕ) (numbers : List ℤ) (rest : List ℕ) → has line_end word ≡ false
    → (has line_end (line_text word numbers ++ rest) ≡ true)
    × (before line_end (line_text word numbers ++ rest) ≡ word ++ spaced (map decimal numbers))
    × (after line_end (line_text word numbers ++ rest) ≡ rest)
