-- The pieces that `split` cuts a line into at its spaces are its words.
use mathlib.Core.Path.{◌≡◌, refl, sym, ap, ◌∙◌}
use mathlib.Core.Bool.{Bool, true, false, not}
use mathlib.Core.List.{List, [], ◌∷◌, ◌++◌}
use mathlib.Core.Option.{Option}
use Prim.Native.Nat.{ℕ, ◌+◌, ◌<◌}
use native.Mathlib.Omega.{arith}
use lib.Dec.{eqb}
use lib.IntN.{ℤ}
use lib.ListN.{length, get_or, drop, length-append}
use denote.Ref.{Bor}
use denote.Param.Members.{Mut}
use Rattle.std.specs.Fn.{CalledAt}
use Rattle.std.specs.List.{slice_split, onto_first}
use Rattle.std.specs.Iterator.Adapters.{skip_source, skip_count, skip_steps}
use Rattle.std.specs.Slice.Iter.{split_rest, split_done, split_callee, split_steps}
use Rattle.std.proofs.lemmas.Iterator.{YieldsList}
use Rattle.std.proofs.lemmas.Iterator.Adapters.{YieldsList-from_skip}
use Rattle.std.proofs.lemmas.Iterator.Consumers.{YieldsList-at}
use Rattle.std.proofs.lemmas.Iterator.Splits.{YieldsList-from_slice_split}
use Rattle.algebra.proofs.Slice.{drop_next}
use Rattle.std.specs.Prelude as P
use Rattle.text.specs.Bytes.{space}
use Rattle.text.specs.Lines.{before, longer, words, spaced}
use Rattle.text.proofs.Scan.{words_split}
use Rattle.text.proofs.Words.{words_joined}
use Rattle.text.specs.Numbers.{found}
use Rattle.lines.specs.Line.{keyword_of, number_words}
use Rattle.fault.specs.Call.{is_none}

same_longer : (b : ℕ) (ws : List (List ℕ)) → onto_first b ws ≡ longer b ws
unfolding longer
same_longer b [] = refl
same_longer b (w ∷ ws) = refl

pub split_is_words : (line : List ℕ) → slice_split (λ b. eqb b space) line ≡ words line
unfolding words
split_is_words [] = refl
split_is_words (b ∷ line) = rw (split_is_words line, same_longer b (words line))

-- the keyword is what stands before the first space
pub keyword_before : (line : List ℕ) → keyword_of line ≡ before space line
keyword_before line = ap (λ (ws : List (List ℕ)). get_or ws 0 []) (words_split line)

-- a line is as long as its keyword and its other words, each with a space before it
pub line_length : (line : List ℕ) → length line ≡ length (keyword_of line) + length (spaced (number_words line))
line_length line = ap length joined ∙ length-append (keyword_of line) (spaced (number_words line))
  where
    cut : words line ≡ keyword_of line ∷ number_words line
    cut = words_split line ∙ sym (ap (λ (ws : List (List ℕ)). get_or ws 0 [] ∷ drop 1 ws) (words_split line))

    joined : line ≡ keyword_of line ++ spaced (number_words line)
    joined = words_joined line (keyword_of line) (number_words line) cut

-- what `split` at spaces yields after its first piece are the words after the keyword
pub words_yielded : {F : Type 0} {g : Mut F (Bor ℕ × Unit {0}) Bool} {f : F} {pieces : _} {later items : _} (line : List ℕ)
    → split_rest pieces ≡ line → split_done pieces ≡ false → split_callee pieces ≡ f
    → ((b : ℕ) (t : Bool) (h : F) → CalledAt g f b t h → (h ≡ f) × (t ≡ eqb b space))
    → skip_source later ≡ pieces → skip_count later ≡ 1 → items ≡ later
    → YieldsList (skip_steps (split_steps g)) (λ w. w.now) items (number_words line)
words_yielded {g = g} line rest done closure tests source count is =
    let road = YieldsList-at is (YieldsList-from_skip 1 (YieldsList-at source
    (YieldsList-from_slice_split g (λ b. eqb b space) line rest done closure tests)) count) in
    rw (split_is_words line) at road

-- the words from one on, where that word is known, and where there is none
pub words_next : (ws : List (List ℕ)) (i : ℕ) (w : List ℕ) → (i < length ws) × (w ≡ get_or ws i w) → drop i ws ≡ w ∷ drop (i + 1) ws
words_next ws i w at = drop_next ws i w at.0 ∙ ap (λ (v : List ℕ). v ∷ drop (i + 1) ws) (sym at.1)

pub spaced_next : (ws : List (List ℕ)) (i : ℕ) (w : List ℕ) → drop i ws ≡ w ∷ drop (i + 1) ws
    → length (spaced (drop i ws)) ≡ length w + length (spaced (drop (i + 1) ws)) + 1
unfolding spaced
spaced_next ws i w next = rw next (simp length-append (omega arith))

-- ---- a word that is no number
pub no_number : (read : P.Option ℤ) {z : Option ℤ} (none : Bool) → found read ≡ z → P.is_some read ≡ not none → is_none z ≡ none
no_number read none e is = ap is_none (sym e) ∙ by read none is
  where
    by : (read : P.Option ℤ) (none : Bool) → P.is_some read ≡ not none → is_none (found read) ≡ none
    by (P.Some x) true is = cc
    by (P.Some x) false is = refl
    by P.None true is = refl
    by P.None false is = cc
