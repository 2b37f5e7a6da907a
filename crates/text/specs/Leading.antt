-- What the inner functions of the number reader find: the digits that a text begins with, and the number that its first line is.
use Rattle.std.specs.Prelude.{false, cond, List, [], ◌∷◌, ℕ, zero, suc, ◌+◌, ◌-◌, ℤ, pos, length}
use Rattle.std.specs.Prelude.{Some, None}
use Rattle.std.specs.Prelude as P
use Rattle.std.specs.Borrow.{Bor}
use Rattle.std.proofs.Math.Option.{Option, none, some}
use Rattle.text.specs.declared.numbers.Digits.{Digits}
use Rattle.text.specs.Bytes.{line_end}
use Rattle.text.specs.Lines.{before, after, has}
use Rattle.text.specs.Numbers.{is_digit, value, number}

-- ---- digits
-- the digits that s begins with, n of them at most
unfoldable pub leading_digits : ℕ → List ℕ → List ℕ
leading_digits zero s = []
leading_digits (suc n) [] = []
leading_digits (suc n) (b ∷ s) = cond (is_digit b) (b ∷ leading_digits n s) []

-- how many digits w are, and what they stand for
abbrev pub digits_of : List ℕ → Digits
digits_of w = record { count = length w; value = value w }

-- ---- a line
-- a number, where there is one, and the place that goes with it
abbrev pub with_place : Option ℤ → ℕ → Option (ℤ × ℕ)
with_place (some z) place = some (z, place)
with_place none place = none

-- the number without a sign that the first line of s is, and where the next line begins: none where it is no number or has no line end
unfoldable pub number_line : List ℕ → Option (ℤ × ℕ)
number_line s = cond (has line_end s) (with_place (number false (before line_end s)) (length (before line_end s) + 1)) none

-- a number, where there is one, and the bytes that go with it
abbrev pub with_rest : Option ℤ → List ℕ → Option (ℤ × List ℕ)
with_rest (some z) rest = some (z, rest)
with_rest none rest = none

-- the number without a sign that the first line of s is, and the bytes after that line: none where it is no number or has no line end
unfoldable pub line_and_rest : List ℕ → Option (ℤ × List ℕ)
line_and_rest s = cond (has line_end s) (with_rest (number false (before line_end s)) (after line_end s)) none

-- what the code finds, as this says it
abbrev pub line_found : P.Option (ℕ × Bor (List ℕ)) → Option (ℤ × List ℕ)
line_found (Some (n, rest)) = some (pos n, rest.now)
line_found None = none

-- the same with the place where the rest begins in s, which is as many bytes on as the rest is shorter than s
abbrev pub place_found : List ℕ → P.Option (ℕ × Bor (List ℕ)) → Option (ℤ × ℕ)
place_found s (Some (n, rest)) = some (pos n, length s - length rest.now)
place_found s None = none
