-- What is proved of the faulty word: it is the first on its line that is no number there, and the part that is named holds it.
use Rattle.std.specs.Prelude.{◌≡◌, Bool, List, ◌∷◌, ◌++◌, ℕ, ◌+◌, ◌≤◌, ℤ, length}
use Rattle.std.proofs.Math.Option.{none, some}
use Rattle.text.specs.Lines.{line_at, line_start, spaced}
use Rattle.text.specs.Numbers.{number}
use Rattle.lines.specs.Line.{all_numbers, keyword_of, number_words, signs_on}
use Rattle.grammar.specs.Reading.{refuses, reading}
use Rattle.fault.specs.declared.Part.{Part}
use Rattle.fault.specs.Call.{faulty_word, bytes_of, faulty_part}

-- a word stands among others: it is no number, and the words before it are
pub record FirstFaulty (signs : Bool) (ws : List (List ℕ)) (word : List ℕ) : Type 0 where
  pub earlier : List (List ℕ)
  pub later : List (List ℕ)
  pub stands : ws ≡ earlier ++ (word ∷ later)
  pub values : List ℤ
  pub are_numbers : all_numbers signs earlier ≡ some values
  pub is_no_number : number signs word ≡ none

-- with 24 the word handed back is the first on its line, after the keyword, that is no number there
abbrev pub HandsBackFirstFaulty : Type 0
HandsBackFirstFaulty = (places : ℕ) (s : List ℕ) (n : ℕ) → reading places s ≡ refuses 24 n
    → FirstFaulty (signs_on (line_at n s)) (number_words (line_at n s)) (faulty_word places s)

-- a part of a text is a word
pub record PartIs (part : Part) (s word : List ℕ) : Type 0 where
  pub within : part.start + part.count ≤ length s
  pub bytes : bytes_of part s ≡ word

-- the faulty word is the part of the sheet that `faulty_part` names
abbrev pub FaultyPartIsWord : Type 0
FaultyPartIsWord = (places : ℕ) (s : List ℕ) → PartIs (faulty_part places s) s (faulty_word places s)

-- with 24 it begins on the refused line, behind the keyword and the words before it, with a space after each
abbrev pub FaultyPartBegins : Type 0
FaultyPartBegins = (places : ℕ) (s : List ℕ) (n : ℕ) → reading places s ≡ refuses 24 n
    → (first : FirstFaulty (signs_on (line_at n s)) (number_words (line_at n s)) (faulty_word places s))
    → (faulty_part places s).start ≡ line_start n s + length (keyword_of (line_at n s) ++ spaced first.earlier) + 1
