-- What the inner functions of the reader find, in the words of the definitions.
use Rattle.std.specs.Prelude.{Bool, ◌&&◌, cond, List, [], ◌∷◌, ℕ, eqb, ℤ, pos, length, Result, Ok, Err}
use Rattle.std.specs.Borrow.{Bor}
use Rattle.std.proofs.Math.Option.{Option, none}
use Rattle.algebra.specs.Table.{same_list}
use Rattle.text.specs.Bytes.{line_end, space}
use Rattle.text.specs.Lines.{before, after, has, words}
use Rattle.text.specs.Leading.{line_and_rest}
use Rattle.lines.specs.Line.{Line, numbers, faulty, all_numbers, of_numbers}
use Rattle.lines.specs.declared.Reason.{Reason}
use Rattle.lines.specs.Reason.{number_of}

-- ---- a line without its keyword
-- the bytes between the keyword's space and the line end, and those after the line, or the number of the refusal
pub data Rest : Type 0 where
  parts : List ℕ → List ℕ → Rest
  wrong : ℕ → Rest

unfoldable pub after_keyword : List ℕ → List ℕ → Rest
after_keyword keyword s =
    let line = before line_end s in
    cond (has line_end s)
    (cond (has space line && same_list eqb (before space line) keyword) (parts (after space line) (after line_end s)) (wrong 23))
    (wrong 22)

abbrev pub head_of : Result (Bor (List ℕ) × Bor (List ℕ)) Reason → Rest
head_of (Ok (part, rest)) = parts part.now rest.now
head_of (Err reason) = wrong (number_of reason)

-- ---- its numbers
-- the words of a part, which are to be a count of numbers
unfoldable pub fields : Bool → ℕ → List ℕ → List ℕ → Line
fields signs count part rest =
    cond (eqb (length (words part)) count) (of_numbers (all_numbers signs (words part)) rest) (faulty 23)

abbrev pub last_of : Result ℤ Reason → List ℕ → Line
last_of (Ok z) rest = numbers (z ∷ []) rest
last_of (Err reason) rest = faulty (number_of reason)

-- ---- the whole line
-- the number of a line `W n` and the bytes after the line, where it is a good one
abbrev pub weight_line : List ℕ → Option (ℤ × List ℕ)
weight_line [] = none
weight_line (x ∷ []) = none
weight_line (x ∷ y ∷ s) = cond (eqb x 0x57 && eqb y space) (line_and_rest s) none

abbrev pub one_of : Result (ℕ × Bor (List ℕ)) Reason → Line
one_of (Ok (n, rest)) = numbers (pos n ∷ []) rest.now
one_of (Err reason) = faulty (number_of reason)

abbrev pub two_of : Result (ℤ × ℤ × Bor (List ℕ)) Reason → Line
two_of (Ok (y, z, rest)) = numbers (y ∷ z ∷ []) rest.now
two_of (Err reason) = faulty (number_of reason)
