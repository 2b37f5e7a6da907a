-- What stands before and after the first b of a text, by induction on the text, with the test of its first byte as a case.
use mathlib.Core.Path.{◌≡◌, refl, sym, ap, subst, ◌∙◌}
use mathlib.Core.Bool.{Bool, true, false, ◌&&◌, ◌||◌, cond}
use mathlib.Core.List.{List, [], ◌∷◌}
use mathlib.Core.Option.{Option, some, none}
use Prim.Native.Nat.{ℕ, zero, suc, ◌+◌, ◌-◌, ◌≤◌, ◌<◌, min}
use native.Mathlib.Nat as NL
use native.Mathlib.Numerals.{add-one}
use native.Mathlib.Omega.{arith}
use borrow.Author.Tests.{lt-ltb, le-ltb, ltb-true, ltb-false}
use lib.Dec.{eqb, ltb, leb-suc-suc}
use lib.ListN.{length, take, drop, length-drop, drop_of_length-le}
use lib.Seq.{drop-drop}
use lib.Pointwise.{pointwise}
use Rattle.std.proofs.Common.{Bor, Some, None, Ok, Err}
use Rattle.std.specs.Prelude as P
use Rattle.std.specs.List.{list_any}
use Rattle.std.specs.Option.{ok_or}
use Rattle.algebra.specs.Table.{same_list}
use Rattle.text.specs.Bytes.{line_end, space}
use Rattle.text.specs.Lines.{before, after, has, around, around_found, after_lines, longer, words, LineStarts}

-- after one step more there is one fewer to go
pub one_fewer : (n i : ℕ) → i < n → n - i ≡ suc (n - (i + 1))
one_fewer n i h = omega arith

-- one line further
pub lines_next : (n i : ℕ) (s : List ℕ) → i < n → after_lines (n - i) s ≡ after_lines (n - (i + 1)) (after line_end s)
unfolding after_lines
lines_next n i s h = ap (λ (k : ℕ). after_lines k s) (one_fewer n i h)

-- the last line is passed as the first is
pub lines_last : (n : ℕ) (s : List ℕ) → after_lines (suc n) s ≡ after line_end (after_lines n s)
unfolding after_lines
lines_last zero s = refl
lines_last (suc n) s = lines_last n (after line_end s)

-- ---- before and after as parts of the text
module _ (b : ℕ) where
  -- what stands before the first b is the text's front
  pub before_take : (s : List ℕ) → take (length (before b s)) s ≡ before b s
  unfolding before
  before_take [] = refl
  before_take (x ∷ s) = by (eqb x b) (before_take s)
    where
      by : (t : Bool) → take (length (before b s)) s ≡ before b s
          → take (length (cond t [] (x ∷ before b s))) (x ∷ s) ≡ cond t [] (x ∷ before b s)
      by true ih = refl
      by false ih = ap (λ (l : List ℕ). x ∷ l) ih

  -- what stands after it is the text from one place further on
  after_drop : (s : List ℕ) → drop (suc (length (before b s))) s ≡ after b s
  unfolding before after
  after_drop [] = refl
  after_drop (x ∷ s) = by (eqb x b) (after_drop s)
    where
      by : (t : Bool) → drop (suc (length (before b s))) s ≡ after b s
          → drop (length (cond t [] (x ∷ before b s))) s ≡ cond t s (after b s)
      by true ih = refl
      by false ih = ih

  -- b is there where the text goes on after what stands before it
  pub has_before : (s : List ℕ) → has b s ≡ ltb (length (before b s)) (length s)
  unfolding before has
  has_before [] = refl
  has_before (x ∷ s) = by (eqb x b) (has_before s)
    where
      by : (t : Bool) → has b s ≡ ltb (length (before b s)) (length s)
          → cond t true (has b s) ≡ ltb (length (cond t [] (x ∷ before b s))) (suc (length s))
      by true ih = sym (lt-ltb 0 (suc (length s)) (omega arith))
      by false ih = ih ∙ sym (leb-suc-suc (suc (length (before b s))) (length s))

-- ---- where lines begin
-- what is left of a text is the text from some place on, and its length says from which
left_from : {A : Type 0} (j : ℕ) (s : List A) → drop (length s - length (drop j s)) s ≡ drop j s
left_from zero s = ap (λ (k : ℕ). drop k s) (NL.sub_self (length s))
left_from (suc j) [] = refl
left_from (suc j) (x ∷ s) = ap (λ (k : ℕ). drop k (x ∷ s)) one_more ∙ left_from j s
  where
    one_more : suc (length s) - length (drop j s) ≡ suc (length s - length (drop j s))
    one_more = rw (length-drop j s) (omega arith)

-- what follows some line ends is left of the text
lines_from : (n : ℕ) (s : List ℕ) → (j : ℕ) × (after_lines n s ≡ drop j s)
unfolding after_lines
lines_from zero s = (0, refl)
lines_from (suc n) s =
    let further = lines_from n (after line_end s) in
    let first = suc (length (before line_end s)) in
    (first + further.0, further.1 ∙ ap (drop further.0) (sym (after_drop line_end s)) ∙ drop-drop further.0 first s)

pub line_starts : LineStarts
line_starts n s = let at = lines_from (n - 1) s in rw at.1 (left_from at.0 s)

-- what `until` tells: k bytes stand before the first b
module _ (b : ℕ) (s : List ℕ) (k : ℕ) (e : k ≡ length (before b s)) where
  pub until_before : take k s ≡ before b s
  until_before = ap (λ (n : ℕ). take n s) e ∙ before_take b s

  pub until_after : drop (k + 1) s ≡ after b s
  until_after = ap (λ (n : ℕ). drop n s) (add-one k ∙ ap suc e) ∙ after_drop b s

  -- and so is the text's end, where it does not go on
  pub until_past : drop (min (length s) (k + 1)) s ≡ after b s
  until_past = by (ltb k (length s)) refl
    where
      by : (t : Bool) → ltb k (length s) ≡ t → drop (min (length s) (k + 1)) s ≡ after b s
      by true t = ap (λ (n : ℕ). drop n s) (omega (arith, ltb-true k (length s) t)) ∙ until_after
      by false t =
          let h = ltb-false k (length s) t in
          drop_of_length-le s (omega (arith, h)) ∙ sym (drop_of_length-le s {i = k + 1} (omega (arith, h))) ∙ until_after

  pub until_end : length s ≤ k → has b s ≡ false
  until_end h = has_before b s ∙ le-ltb (length (before b s)) (length s) (omega arith)

  pub until_found : k < length s → has b s ≡ true
  until_found h = has_before b s ∙ lt-ltb (length (before b s)) (length s) (omega arith)

  -- so it is split there
  pub around_none : length s ≤ k → around b s ≡ none
  around_none h = rw (until_end h)

  pub around_some : k < length s → around b s ≡ some (take k s, drop 1 (drop k s))
  around_some h = rw (until_found h) (λ i. some (sym until_before i, (sym until_after ∙ sym (drop-drop 1 k s)) i))

-- what is told of a text that is split at its first b
pub record Around (b : ℕ) (s front rest : List ℕ) : Type 0 where
  pub ends : has b s ≡ true
  pub front_is : before b s ≡ front
  pub rest_is : after b s ≡ rest

abbrev Tells : ℕ → List ℕ → Option (List ℕ × List ℕ) → Type 0
Tells b s (some (front, rest)) = Around b s front rest
Tells b s none = has b s ≡ false

tells : (b : ℕ) (s : List ℕ) → Tells b s (around b s)
tells b s = by (has b s) refl
  where
    by : (t : Bool) → has b s ≡ t → Tells b s (cond t (some (before b s, after b s)) none)
    by true e = record { ends = e; front_is = refl; rest_is = refl }
    by false e = e

-- as an error e says where it is not
module _ {E : Type 0} (b : ℕ) (s : List ℕ) (e : E) where
  pub split_yes : (split : P.Option (Bor (List ℕ) × Bor (List ℕ))) → around_found split ≡ around b s → {front rest : Bor (List ℕ)}
      → ok_or split e ≡ Ok (front, rest) → Around b s front.now rest.now
  split_yes None says q = cc
  split_yes (Some p) says {front} {rest} q =
      let is : p ≡ (front, rest) = cc in
      subst (λ p. Tells b s (around_found (Some p))) is (subst (Tells b s) (sym says) (tells b s))

  pub split_no : (split : P.Option (Bor (List ℕ) × Bor (List ℕ))) → around_found split ≡ around b s → {x : E}
      → ok_or split e ≡ Err x → (has b s ≡ false) × (e ≡ x)
  split_no None says q = (subst (Tells b s) (sym says) (tells b s), cc)
  split_no (Some p) says q = cc

-- ---- what the library tests
-- `==` on slices
pub same_pointwise : (s t : List ℕ) → same_list eqb s t ≡ pointwise eqb s t
same_pointwise [] [] = refl
same_pointwise [] (y ∷ t) = refl
same_pointwise (x ∷ s) [] = refl
same_pointwise (x ∷ s) (y ∷ t) = ap (λ (q : Bool). eqb x y && q) (same_pointwise s t)

-- `contains`
pub has_any : (b : ℕ) (s : List ℕ) → has b s ≡ list_any (λ x. eqb x b) s
unfolding has
has_any b [] = refl
has_any b (x ∷ s) = by (eqb x b) (has_any b s)
  where
    by : (t : Bool) → has b s ≡ list_any (λ y. eqb y b) s → cond t true (has b s) ≡ (t || list_any (λ y. eqb y b) s)
    by true ih = refl
    by false ih = ih

-- a line's first word, and the words of what stands after its first space
pub words_split : (s : List ℕ) → words s ≡ before space s ∷ cond (has space s) (words (after space s)) []
unfolding words longer before has after
words_split [] = refl
words_split (x ∷ s) = by (eqb x space) (words_split s)
  where
    by : (t : Bool) → words s ≡ before space s ∷ cond (has space s) (words (after space s)) []
        → cond t ([] ∷ words s) (longer x (words s))
        ≡ cond t [] (x ∷ before space s) ∷ cond (cond t true (has space s)) (words (cond t s (after space s))) []
    by true ih = refl
    by false ih = ap (longer x) ih
