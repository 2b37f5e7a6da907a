-- What stands around the first b of a text, byte by byte: each is a b or not. Words, by the line's first byte, and back by the first word.
use mathlib.Core.Path.{◌≡◌, refl, sym, ap, ◌∙◌}
use mathlib.Core.Bool.{Bool, true, false, ◌&&◌, ◌||◌, not, cond, true≢false, false≢true}
use mathlib.Core.List.{List, [], ◌∷◌, ◌++◌, nil≢cons}
use Prim.Native.Nat.{ℕ}
use borrow.Author.Tests.{eqb-true, eq-eqb}
use lib.Dec.{eqb}
use lib.ListN.{drop}
use Rattle.algebra.specs.Table.{every}
use Rattle.text.specs.Bytes.{space}
use Rattle.text.specs.Lines.{before, after, has, longer, words, spaced, SplitAtFirst, FirstAfter, WordsJoined, WordsOfJoined}

pub has_append : (b : ℕ) (s t : List ℕ) → has b (s ++ t) ≡ (has b s || has b t)
unfolding has
has_append b [] t = refl
has_append b (x ∷ s) t = by (eqb x b) (has_append b s t)
  where
    by : (q : Bool) → has b (s ++ t) ≡ (has b s || has b t) → cond q true (has b (s ++ t)) ≡ (cond q true (has b s) || has b t)
    by true ih = refl
    by false ih = ih

pub split_at_first : SplitAtFirst
unfolding has before after
split_at_first b [] e = absurd (false≢true e)
split_at_first b (x ∷ s) e = by (eqb x b) refl (split_at_first b s) e
  where
    by : (q : Bool) → eqb x b ≡ q → (has b s ≡ true → s ≡ before b s ++ (b ∷ after b s)) → cond q true (has b s) ≡ true
        → x ∷ s ≡ cond q [] (x ∷ before b s) ++ (b ∷ cond q s (after b s))
    by true t ih h = ap (λ (y : ℕ). y ∷ s) (eqb-true x b t)
    by false t ih h = ap (λ (l : List ℕ). x ∷ l) (ih h)

pub first_after : FirstAfter
unfolding has before after
first_after b [] rest e = rw (eq-eqb b b refl) (refl, refl, refl)
first_after b (x ∷ s) rest e = by (eqb x b) (s ++ (b ∷ rest)) (first_after b s rest) e
  where
    by : (q : Bool) (all : List ℕ) → (has b s ≡ false → (has b all ≡ true) × (before b all ≡ s) × (after b all ≡ rest))
        → cond q true (has b s) ≡ false
        → (cond q true (has b all) ≡ true) × (cond q [] (x ∷ before b all) ≡ x ∷ s) × (cond q all (after b all) ≡ rest)
    by true all ih h = absurd (true≢false h)
    by false all ih h = ((ih h).0, ap (λ (l : List ℕ). x ∷ l) (ih h).1, (ih h).2)

-- a line's words, with a space before each, are the line with a space before it
spaced_words : (line : List ℕ) → spaced (words line) ≡ space ∷ line
unfolding words longer spaced
spaced_words [] = refl
spaced_words (b ∷ line) = by (eqb b space) refl (words line) (spaced_words line)
  where
    by : (q : Bool) → eqb b space ≡ q → (ws : List (List ℕ)) → spaced ws ≡ space ∷ line
        → spaced (cond q ([] ∷ ws) (longer b ws)) ≡ space ∷ (b ∷ line)
    by true t ws ih = ap (λ (l : List ℕ). space ∷ l) (ih ∙ ap (λ (y : ℕ). y ∷ line) (sym (eqb-true b space t)))
    by false t [] ih = absurd (nil≢cons ih)
    by false t (w ∷ ws) ih = ap (λ (l : List ℕ). space ∷ (b ∷ drop 1 l)) ih

pub words_joined : WordsJoined
unfolding spaced
words_joined line w ws e = ap (drop 1) (sym (spaced_words line) ∙ ap spaced e)

-- a word without spaces goes on as far as the first space after it
first_word : (w rest : List ℕ) (ws : List (List ℕ)) → has space w ≡ false → words rest ≡ [] ∷ ws → words (w ++ rest) ≡ w ∷ ws
unfolding has words longer
first_word [] rest ws e h = h
first_word (b ∷ w) rest ws e h = by (eqb b space) e (λ k. first_word w rest ws k h)
  where
    by : (q : Bool) → cond q true (has space w) ≡ false → (has space w ≡ false → words (w ++ rest) ≡ w ∷ ws)
        → cond q ([] ∷ words (w ++ rest)) (longer b (words (w ++ rest))) ≡ (b ∷ w) ∷ ws
    by true k ih = absurd (true≢false k)
    by false k ih = ap (longer b) (ih k)

words_spaced : (ws : List (List ℕ)) → every (λ v. not (has space v)) ws ≡ true → words (spaced ws) ≡ [] ∷ ws
unfolding words spaced
words_spaced [] e = refl
words_spaced (w ∷ ws) e = by (has space w) refl (words_spaced ws) e
  where
    by : (q : Bool) → has space w ≡ q → (every (λ v. not (has space v)) ws ≡ true → words (spaced ws) ≡ [] ∷ ws)
        → (not q && every (λ v. not (has space v)) ws) ≡ true → words (spaced (w ∷ ws)) ≡ [] ∷ (w ∷ ws)
    by true t ih h = absurd (false≢true h)
    by false t ih h = ap (λ (vs : List (List ℕ)). [] ∷ vs) (first_word w (spaced ws) ws t (ih h))

pub words_of_joined : WordsOfJoined
words_of_joined w ws e h = first_word w (spaced ws) ws e (words_spaced ws h)
