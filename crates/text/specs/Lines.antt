-- Lines and words: "Each line ends with byte 0A hexadecimal. A line's words are its pieces between single spaces."
use Rattle.std.specs.Prelude.{◌≡◌, Bool, true, false, not, cond, List, [], ◌∷◌, ◌++◌, ℕ, zero, suc, ◌+◌, ◌-◌, ◌≤◌, eqb, length, drop}
use Rattle.std.specs.Prelude.{Some, None}
use Rattle.std.specs.Prelude as P
use Rattle.std.specs.Borrow.{Bor}
use Rattle.std.proofs.Math.Option.{Option, none, some}
use Rattle.algebra.specs.Table.{every}
use Rattle.text.specs.Bytes.{line_end, space}

-- the bytes of s before its first b: all of them where it has none
unfoldable pub before : ℕ → List ℕ → List ℕ
before b [] = []
before b (x ∷ s) = cond (eqb x b) [] (x ∷ before b s)

-- the bytes of s after its first b: none where it has none
unfoldable pub after : ℕ → List ℕ → List ℕ
after b [] = []
after b (x ∷ s) = cond (eqb x b) s (after b s)

unfoldable pub has : ℕ → List ℕ → Bool
has b [] = false
has b (x ∷ s) = cond (eqb x b) true (has b s)

-- what stands before and after the first b of s, where it has one
abbrev pub around : ℕ → List ℕ → Option (List ℕ × List ℕ)
around b s = cond (has b s) (some (before b s, after b s)) none

-- what the code finds, as this says it
abbrev pub around_found : P.Option (Bor (List ℕ) × Bor (List ℕ)) → Option (List ℕ × List ℕ)
around_found (Some (front, rest)) = some (front.now, rest.now)
around_found None = none

-- rest stands in memory where the last bytes of s do, and not elsewhere, where the same bytes may stand too
pub record EndOf (s rest : Bor (List ℕ)) : Type 0 where
  pub within : length rest.now ≤ length s.now
  pub place : rest.ref_ptr ≡ (s.ref_ptr.0, (length s.now - length rest.now) + s.ref_ptr.1)

-- ---- lines
-- what follows the first n line ends
unfoldable pub after_lines : ℕ → List ℕ → List ℕ
after_lines zero s = s
after_lines (suc n) s = after_lines n (after line_end s)

-- line n, from 1, without its line end
abbrev pub line_at : ℕ → List ℕ → List ℕ
line_at n s = before line_end (after_lines (n - 1) s)

-- how many bytes stand before line n
abbrev pub line_start : ℕ → List ℕ → ℕ
line_start n s = length s - length (after_lines (n - 1) s)

-- s is n lines, each with its line end, and nothing more
unfoldable pub IsLines : ℕ → List ℕ → Type 0
IsLines zero s = s ≡ []
IsLines (suc n) s = (has line_end s ≡ true) × IsLines n (after line_end s)

-- ---- words
-- one byte more at the front of the first word
unfoldable pub longer : ℕ → List (List ℕ) → List (List ℕ)
longer b [] = (b ∷ []) ∷ []
longer b (w ∷ ws) = (b ∷ w) ∷ ws

-- one word more than there are spaces; a word may be empty
unfoldable pub words : List ℕ → List (List ℕ)
words [] = [] ∷ []
words (b ∷ line) = cond (eqb b space) ([] ∷ words line) (longer b (words line))

-- words with a space before each of them
unfoldable pub spaced : List (List ℕ) → List ℕ
spaced [] = []
spaced (w ∷ ws) = space ∷ (w ++ spaced ws)

-- ---- what is proved of them
-- a text that has a b is what stands before it, the b, and what stands after it
abbrev pub SplitAtFirst : Type 0
SplitAtFirst = (b : ℕ) (s : List ℕ) → has b s ≡ true → s ≡ before b s ++ (b ∷ after b s)

-- and a b after a text that has none is the first
abbrev pub FirstAfter : Type 0
FirstAfter = (b : ℕ) (s rest : List ℕ) → has b s ≡ false
    → (has b (s ++ (b ∷ rest)) ≡ true) × (before b (s ++ (b ∷ rest)) ≡ s) × (after b (s ++ (b ∷ rest)) ≡ rest)

-- line n begins there
abbrev pub LineStarts : Type 0
LineStarts = (n : ℕ) (s : List ℕ) → drop (line_start n s) s ≡ after_lines (n - 1) s

-- m lines and n lines are m + n lines
abbrev pub LinesAppend : Type 0
LinesAppend = (m n : ℕ) (s t : List ℕ) → IsLines m s → IsLines n t → IsLines (m + n) (s ++ t)

-- and the text that is appended to m lines is what follows them
abbrev pub LinesFollowed : Type 0
LinesFollowed = (m : ℕ) (s t : List ℕ) → IsLines m s → after_lines m (s ++ t) ≡ t

-- a line is its words with single spaces between them
abbrev pub WordsJoined : Type 0
WordsJoined = (line w : List ℕ) (ws : List (List ℕ)) → words line ≡ w ∷ ws → line ≡ w ++ spaced ws

-- and words without spaces, joined so, are the words of the line
abbrev pub WordsOfJoined : Type 0
WordsOfJoined = (w : List ℕ) (ws : List (List ℕ)) → has space w ≡ false → every (λ v. not (has space v)) ws ≡ true
    → words (w ++ spaced ws) ≡ w ∷ ws
