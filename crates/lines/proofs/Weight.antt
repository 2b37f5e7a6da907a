-- A line `W n` by its bytes: behind `W` and a space the rest of the line is its one field, and that is a number.
use mathlib.Core.Path.{◌≡◌, refl, sym, ap, ◌∙◌}
use mathlib.Core.Bool.{Bool, true, false, ◌&&◌, cond, and-false}
use mathlib.Core.List.{List, [], ◌∷◌, ◌++◌}
use mathlib.Core.Option.{Option, none, some}
use Prim.Native.Nat.{ℕ}
use borrow.Author.Tests.{eqb-true}
use lib.Dec.{eqb}
use lib.IntN.{ℤ, pos}
use Rattle.text.specs.Bytes.{line_end, space}
use Rattle.text.specs.Lines.{before, after, has}
use Rattle.text.specs.Numbers.{number}
use Rattle.text.specs.Leading.{with_rest, line_and_rest}
use Rattle.text.proofs.Read.{tells_rest}
use Rattle.lines.specs.Keywords.{W}
use Rattle.lines.specs.Line.{numbers, line}
use Rattle.lines.specs.Parts.{parts, wrong, after_keyword, fields, weight_line}
use Rattle.lines.proofs.Parted.{line_fields, field_number}

-- the keyword and its space
abbrev front : List ℕ
front = W ++ (space ∷ [])

-- the line of these and the text s
after_keyword_lem : (s : List ℕ) → has line_end s ≡ true
    → line false W 1 (front ++ s) ≡ fields false 1 (before line_end s) (after line_end s)
unfolding after_keyword before after has
after_keyword_lem s e = line_fields false W 0 (front ++ s) ∙ rw e

-- a good one is the line
pub good_weight : (s : List ℕ) {w : ℕ} {rest : List ℕ} → weight_line s ≡ some (pos w, rest) → line false W 1 s ≡ numbers (pos w ∷ []) rest
good_weight [] e = cc
good_weight (x ∷ []) e = cc
good_weight (x ∷ y ∷ s) {w} {rest} e = by (eqb x 0x57) refl (eqb y space) refl e
  where
    by : (p : Bool) → eqb x 0x57 ≡ p → (q : Bool) → eqb y space ≡ q → cond (p && q) (line_and_rest s) none ≡ some (pos w, rest)
        → line false W 1 (x ∷ y ∷ s) ≡ numbers (pos w ∷ []) rest
    by true k true h e =
        let l = tells_rest s (pos w) rest e in
        (λ i. line false W 1 (eqb-true x 0x57 k i ∷ eqb-true y space h i ∷ s))
        ∙ after_keyword_lem s l.ends
        ∙ field_number false (before line_end s) (after line_end s) (pos w) l.is_number
        ∙ ap (numbers (pos w ∷ [])) l.others
    by true k false h e = cc
    by false k q h e = cc

clash : {n : ℕ} {part next : List ℕ} → wrong n ≡ parts part next → ⊥
clash e = cc

same_part : {part next part' next' : List ℕ} → parts part next ≡ parts part' next' → part ≡ part'
same_part e = cc

none_told : (s : List ℕ) → has line_end s ≡ true → line_and_rest s ≡ none → number false (before line_end s) ≡ none
unfolding line_and_rest
none_told s h e = by (number false (before line_end s)) (simp (h) at e)
  where
    by : (n : Option ℤ) → with_rest n (after line_end s) ≡ none → n ≡ none
    by none e = refl
    by (some z) e = cc

-- of any other that has the keyword, what follows is no number
pub no_weight : (s : List ℕ) {part next : List ℕ} → weight_line s ≡ none → after_keyword W s ≡ parts part next → number false part ≡ none
unfolding after_keyword before after has
no_weight [] n e = absurd (clash e)
no_weight (x ∷ []) {part} {next} n e = by (eqb x line_end) refl (eqb x space) refl
  where
    by : (p : Bool) → eqb x line_end ≡ p → (q : Bool) → eqb x space ≡ q → number false part ≡ none
    by true f q g = absurd (clash (simp (f) at e))
    by false f q g = absurd (clash (simp (f) at e))
no_weight (x ∷ y ∷ s) {part} {next} n e =
    by (eqb x line_end) refl (eqb y line_end) refl (eqb x space) refl (eqb y space) refl (eqb x 0x57) refl (has line_end s) refl
  where
    by : (a : Bool) → eqb x line_end ≡ a → (b : Bool) → eqb y line_end ≡ b → (c : Bool) → eqb x space ≡ c → (d : Bool) → eqb y space ≡ d
        → (k : Bool) → eqb x 0x57 ≡ k → (h : Bool) → has line_end s ≡ h → number false part ≡ none
    by true a' b b' c c' d d' k k' h h' = absurd (clash (simp (a') at e))
    by false a' true b' true c' d d' k k' h h' = absurd (clash (simp (a', b', c') at e))
    by false a' true b' false c' d d' k k' h h' = absurd (clash (simp (a', b', c') at e))
    by false a' false b' true c' d d' k k' false h' = absurd (clash (simp (a', b', c', h') at e))
    by false a' false b' true c' d d' k k' true h' = absurd (clash (simp (a', b', c', h') at e))
    by false a' false b' false c' d d' k k' false h' = absurd (clash (simp (a', b', c', h') at e))
    by false a' false b' false c' true d' false k' true h' = absurd (clash (simp (a', b', c', d', k', h') at e))
    by false a' false b' false c' true d' true k' true h' =
        ap (number false) (sym (same_part (simp (a', b', c', d', k', h') at e))) ∙ none_told s h' (simp (k', d') at n)
    by false a' false b' false c' false d' false k' true h' = absurd (clash (simp (a', b', c', k', h', and-false) at e))
    by false a' false b' false c' false d' true k' true h' = absurd (clash (simp (a', b', c', d', k', h', and-false) at e))
