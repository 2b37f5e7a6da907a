-- A line of numbers. No number's text has a line end, so that the line's own is the first; nor a space, so that the line's words are the
-- texts of its numbers.
use mathlib.Core.Path.{◌≡◌, refl, ◌∙◌, subst}
use mathlib.Core.Bool.{true, false, not}
use mathlib.Core.List.{List, [], ◌∷◌, ◌++◌, map, append-nil, append_assoc}
use Prim.Native.Nat.{ℕ}
use native.Mathlib.Omega.{arith}
use lib.IntN.{ℤ}
use Rattle.algebra.specs.Table.{every}
use Rattle.text.specs.Bytes.{line_end, space}
use Rattle.text.specs.Lines.{has, IsLines, spaced}
use Rattle.text.specs.Numbers.{decimal}
use Rattle.text.specs.LineText.{line_text, LineTextIsLine, LineTextFirst}
use Rattle.text.proofs.Words.{has_append, first_after}
use Rattle.text.proofs.Decimal.{decimal_plain}

pub no_line_end : (zs : List ℤ) → has line_end (spaced (map decimal zs)) ≡ false
unfolding has spaced
no_line_end [] = refl
no_line_end (z ∷ zs) =
    rw (has_append line_end (decimal z) (spaced (map decimal zs)), decimal_plain line_end (omega arith) z) (no_line_end zs)

pub no_space : (zs : List ℤ) → every (λ v. not (has space v)) (map decimal zs) ≡ true
no_space [] = refl
no_space (z ∷ zs) = rw (decimal_plain space (omega arith) z) (no_space zs)

pub line_text_first : LineTextFirst
unfolding line_text
line_text_first word zs rest e = rw regrouped (first_after line_end (word ++ fields) rest plain)
  where
    fields : List ℕ
    fields = spaced (map decimal zs)

    plain : has line_end (word ++ fields) ≡ false
    plain = has_append line_end word fields ∙ rw (e, no_line_end zs)

    regrouped : (word ++ (fields ++ (line_end ∷ []))) ++ rest ≡ (word ++ fields) ++ (line_end ∷ rest)
    regrouped = simp append_assoc

pub line_text_is_line : LineTextIsLine
unfolding IsLines
line_text_is_line word zs e =
    let first = line_text_first word zs [] e in
    subst (IsLines 1) (append-nil (line_text word zs)) (first.0, first.2)
