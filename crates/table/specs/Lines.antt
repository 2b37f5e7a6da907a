-- The program's lines: "It writes the line below in capitals, then one line for each total: total, low, high, bound.", and "Y or N as a
-- fifth column headed EXACT". "On refusal it writes one line only: `REFUSED`, the number and the place or line. Single spaces stand between
-- words, and every line has a line end."
use Rattle.std.specs.Prelude.{cond, List, [], ◌∷◌, ◌++◌, map, ℕ, zero, suc, ◌≤◌, ℤ, pos, length, get_or}
use Rattle.model.specs.Answer.{Answer}
use Rattle.model.specs.Mark.{is_exact}
use Rattle.text.specs.Bytes.{ascii, space, line_end}
use Rattle.text.specs.Lines.{spaced}
use Rattle.text.specs.Numbers.{decimal}
use Rattle.text.specs.LineText.{line_text}

-- the bytes Y and N
abbrev pub yes : ℕ
yes = 89

abbrev pub no : ℕ
no = 78

-- whether an entry is exact, by its mark
abbrev pub exact_letter : ℤ → ℕ
exact_letter mark = cond (is_exact mark) yes no

abbrev pub total_words : ℕ → (low high bound mark : ℤ) → List ℕ
total_words total low high bound mark =
    decimal (pos total) ++ (spaced (map decimal (low ∷ high ∷ bound ∷ [])) ++ (space ∷ exact_letter mark ∷ []))

abbrev pub total_line : ℕ → (low high bound mark : ℤ) → List ℕ
total_line total low high bound mark = total_words total low high bound mark ++ (line_end ∷ [])

abbrev pub at : List ℤ → ℕ → ℤ
at row x = get_or row x (pos 0)

-- the lines of the first totals of four rows
unfoldable pub total_lines : ℕ → (low high bound mark : List ℤ) → List ℕ
total_lines zero low high bound mark = []
total_lines (suc x) low high bound mark = total_lines x low high bound mark ++ total_line x (at low x) (at high x) (at bound x) (at mark x)

-- each row has a place for each of the first totals
pub record LongEnough (totals : ℕ) (low high bound mark : List ℤ) : Type 0 where
  pub lows : totals ≤ length low
  pub highs : totals ≤ length high
  pub bounds : totals ≤ length bound
  pub marks : totals ≤ length mark

abbrev pub table_text : ℕ → (low high bound mark : List ℤ) → List ℕ
table_text totals low high bound mark = ascii "TOTAL LOW HIGH BOUND EXACT\n" ++ total_lines totals low high bound mark

abbrev pub refusal_line : Answer → List ℕ
refusal_line answer = line_text (ascii "REFUSED") (pos answer.number ∷ pos answer.place ∷ [])
