-- What is proved of the reader's definition, so that one need not read a parser to know which sheets it takes: exactly the texts of
-- writable sheets that the row has room for.
use Rattle.std.specs.Prelude.{◌≡◌, List, ℕ, ◌≤◌, ◌<◌, ℤ, pos, length, get_or}
use Rattle.std.proofs.Math.Option.{none}
use Rattle.model.specs.Limits.{most_order, most_severities}
use Rattle.text.specs.Lines.{line_at}
use Rattle.text.specs.Numbers.{AtMostTenDigits}
use Rattle.lines.specs.Line.{all_numbers, number_words, signs_on}
use Rattle.grammar.specs.Sheet.{Sheet, sheet_text}
use Rattle.grammar.specs.Reading.{reads, refuses, most_bytes, reading}

-- the four terms of a law, at most 10 digits each; those past the order are zero
pub record Terms (order : ℕ) (terms : List ℤ) : Type 0 where
  pub four : length terms ≡ most_order
  pub past : (i : ℕ) → order ≤ i → get_or terms i (pos 0) ≡ pos 0
  pub small : (i : ℕ) → AtMostTenDigits (get_or terms i (pos 0))

-- the numbers that a sheet can hold: order 1 to 4, 1 to 500 weights, and at most 10 digits each
pub record Writable (sheet : Sheet) : Type 0 where
  pub order_least : 1 ≤ sheet.job.law.order
  pub order_most : sheet.job.law.order ≤ most_order
  pub divisor : AtMostTenDigits (pos sheet.job.law.divisor)
  pub a : Terms sheet.job.law.order sheet.job.law.a
  pub b : Terms sheet.job.law.order sheet.job.law.b
  pub low : AtMostTenDigits (pos sheet.job.start.low)
  pub high : AtMostTenDigits (pos sheet.job.start.high)
  pub last : AtMostTenDigits (pos sheet.job.last)
  pub zero : AtMostTenDigits (pos sheet.job.zero)
  pub count_least : 1 ≤ length sheet.weights
  pub count_most : length sheet.weights ≤ most_severities
  pub weights : (i : ℕ) → AtMostTenDigits (pos (get_or sheet.weights i 0))

-- a sheet that is taken is, byte for byte, the text of the numbers read: nothing is dropped, and no two sheets are read as one
abbrev pub TakesOnlyTexts : Type 0
TakesOnlyTexts = (places : ℕ) (s : List ℕ) (sheet : Sheet) → reading places s ≡ reads sheet
    → Writable sheet × (length sheet.weights ≤ places) × (s ≡ sheet_text sheet)

-- and every such text is taken, and gives its numbers back
abbrev pub TakesAllTexts : Type 0
TakesAllTexts = (places : ℕ) (sheet : Sheet) → Writable sheet → length sheet.weights ≤ places
    → reading places (sheet_text sheet) ≡ reads sheet

-- none of them is too long, so that 21 refuses no writable sheet
abbrev pub TextsFit : Type 0
TextsFit = (sheet : Sheet) → Writable sheet → length (sheet_text sheet) ≤ most_bytes

-- any other is refused by one of the reader's numbers, and by 27 only where the row has fewer places than a table may have severities
abbrev pub RefusalNumbers : Type 0
RefusalNumbers = (places : ℕ) (s : List ℕ) (number n : ℕ) → reading places s ≡ refuses number n
    → (21 ≤ number) × (number ≤ 27) × (number ≡ 27 → places < most_severities)

-- with 24 the line that is named has, after its keyword, a word that is no number there
abbrev pub NamesFaultyLine : Type 0
NamesFaultyLine = (places : ℕ) (s : List ℕ) (n : ℕ) → reading places s ≡ refuses 24 n
    → all_numbers (signs_on (line_at n s)) (number_words (line_at n s)) ≡ none
