-- Lines that are appended to lines. The first line end of s is that of s ++ t too, so that the first line is passed in both alike; then by
-- induction on the lines of s.
use mathlib.Core.Path.{◌≡◌, refl, sym, ap, ◌∙◌, subst₂}
use mathlib.Core.Bool.{Bool, true, false, cond, false≢true}
use mathlib.Core.List.{List, [], ◌∷◌, ◌++◌}
use Prim.Native.Nat.{ℕ, zero, suc}
use native.Mathlib.Nat as NL
use lib.Dec.{eqb}
use Rattle.text.specs.Bytes.{line_end}
use Rattle.text.specs.Lines.{after, has, after_lines, IsLines, LinesAppend, LinesFollowed}
use Rattle.text.proofs.Words.{has_append}

after_append : (b : ℕ) (s t : List ℕ) → has b s ≡ true → after b (s ++ t) ≡ after b s ++ t
unfolding has after
after_append b [] t e = absurd (false≢true e)
after_append b (x ∷ s) t e = by (eqb x b) (after_append b s t) e
  where
    by : (q : Bool) → (has b s ≡ true → after b (s ++ t) ≡ after b s ++ t) → cond q true (has b s) ≡ true
        → cond q (s ++ t) (after b (s ++ t)) ≡ cond q s (after b s) ++ t
    by true ih h = refl
    by false ih h = ih h

pub lines_append : LinesAppend
unfolding IsLines
lines_append zero n s t h k = subst₂ IsLines (sym (NL.zero-add n)) (sym (ap (λ (l : List ℕ). l ++ t) h)) k
lines_append (suc m) n s t h k = rw (NL.suc-add m n, has_append line_end s t, h.0, after_append line_end s t h.0)
    (refl, lines_append m n (after line_end s) t h.1 k)

pub lines_followed : LinesFollowed
unfolding IsLines after_lines
lines_followed zero s t h = ap (λ (l : List ℕ). l ++ t) h
lines_followed (suc m) s t h = ap (after_lines m) (after_append line_end s t h.0) ∙ lines_followed m (after line_end s) t h.1
