-- The calls that give the faulty word, "from the sheet and the row's number of places", and where it stands.
use Rattle.std.specs.Prelude.{Bool, true, false, cond, List, [], ◌∷◌, ℕ, ◌+◌, eqb, ℤ, length, take, drop}
use Rattle.std.proofs.Math.Option.{Option, none, some}
use Rattle.text.specs.Lines.{line_at, line_start}
use Rattle.text.specs.Numbers.{number}
use Rattle.lines.specs.Line.{keyword_of, number_words, signs_on}
use Rattle.grammar.specs.Reading.{Reading, reads, refuses, reading}
use Rattle.fault.specs.declared.Part.{Part}

-- ---- the word
abbrev pub is_none : Option ℤ → Bool
is_none none = true
is_none (some z) = false

-- the first word that is no number; empty where each is one
unfoldable pub first_no_number : Bool → List (List ℕ) → List ℕ
first_no_number signs [] = []
first_no_number signs (w ∷ ws) = cond (is_none (number signs w)) w (first_no_number signs ws)

abbrev pub fault_on : List ℕ → List ℕ
fault_on line = first_no_number (signs_on line) (number_words line)

-- "With 24 the faulty word itself is handed back as a part of the sheet, the first on its line if there are several; with the others and
-- after an acceptance, an empty part."
abbrev pub word_of : Reading → List ℕ → List ℕ
word_of (reads sheet) s = []
word_of (refuses number line) s = cond (eqb number 24) (fault_on (line_at line s)) []

abbrev pub faulty_word : ℕ → List ℕ → List ℕ
faulty_word places s = word_of (reading places s) s

-- ---- where it stands: so many bytes from a place on, which is counted from 0
abbrev pub part_of : ℕ → ℕ → Part
part_of start count = record { start = start; count = count }

abbrev pub no_part : Part
no_part = part_of 0 0

-- the bytes of a part of a text
abbrev pub bytes_of : Part → List ℕ → List ℕ
bytes_of part s = take part.count (drop part.start s)

-- the first word that is no number, as a part of its line, and an empty part where each is one; the words begin at byte n, with a space
-- after each but the last
unfoldable pub first_part : Bool → ℕ → List (List ℕ) → Part
first_part signs n [] = no_part
first_part signs n (w ∷ ws) = cond (is_none (number signs w)) (part_of n (length w)) (first_part signs (n + length w + 1) ws)

abbrev pub part_on : List ℕ → Part
part_on line = first_part (signs_on line) (length (keyword_of line) + 1) (number_words line)

-- a part of what begins at byte n of a text, as a part of the text
abbrev pub from : ℕ → Part → Part
from n part = part_of (n + part.start) part.count

-- the first word on line n of a sheet that is no number there
abbrev pub part_at : ℕ → List ℕ → Part
part_at n s = from (line_start n s) (part_on (line_at n s))

-- with 24 alone there is one
abbrev pub part_in : Reading → List ℕ → Part
part_in (reads sheet) s = no_part
part_in (refuses number line) s = cond (eqb number 24) (part_at line s) no_part

abbrev pub faulty_part : ℕ → List ℕ → Part
faulty_part places s = part_in (reading places s) s
