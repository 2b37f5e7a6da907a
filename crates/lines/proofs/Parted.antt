-- A line by its parts: the keyword, and the fields after it. Words are split at the first space, so each law goes by the tests that the
-- definition makes there.
use mathlib.Core.Path.{◌≡◌, refl, sym, ap, ◌∙◌}
use mathlib.Core.Bool.{Bool, true, false, ◌&&◌, cond}
use mathlib.Core.List.{List, [], ◌∷◌}
use mathlib.Core.Option.{Option, none, some}
use Prim.Native.Nat.{ℕ, suc}
use native.Mathlib.Omega.{arith}
use borrow.Author.Tests.{ltb-false}
use lib.Dec.{eqb, eqb-zero-suc, eqb-suc-zero, eqb-suc-suc}
use lib.IntN.{ℤ}
use lib.ListN.{length}
use lib.Seq.{take_all}
use lib.Pointwise.{pointwise}
use Rattle.std.proofs.Common.{Result, Ok, Err}
use Rattle.std.specs.Result.{IsErrAnd}
use Rattle.algebra.specs.Table.{same_list}
use Rattle.text.specs.Bytes.{line_end, space}
use Rattle.text.specs.Lines.{before, after, has, words}
use Rattle.text.specs.Numbers.{number}
use Rattle.text.proofs.Scan.{Around, before_take, has_before, words_split, same_pointwise}
use Rattle.text.proofs.Decimal.{decimal_plain, number_is_decimal}
use Rattle.lines.specs.Line.{Line, numbers, faulty, both, all_numbers, of_numbers, line}
use Rattle.lines.specs.Parts.{Rest, parts, wrong, after_keyword, fields}
use Rattle.lines.specs.declared.Reason.{Reason}

-- what `?` hands on
pub handed_on : {T : Type 0} (r : Result T Reason) {reason : Reason} → IsErrAnd r (λ e. e ≡ reason) → r ≡ Err reason
handed_on (Ok x) h = absurd h
handed_on (Err e) h = ap Err h

-- ---- the keyword
module _ (keyword s : List ℕ) where
  pub no_line_end : has line_end s ≡ false → after_keyword keyword s ≡ wrong 22
  unfolding after_keyword
  no_line_end e = rw e

  module _ {text next : List ℕ} (line : Around line_end s text next) where
    pub no_space : has space text ≡ false → after_keyword keyword s ≡ wrong 23
    unfolding after_keyword
    no_space e = rw (line.ends, line.front_is, e)

    pub keyword_decides : {word part : List ℕ} → Around space text word part → (t : Bool) → t ≡ pointwise eqb word keyword
        → after_keyword keyword s ≡ cond t (parts part next) (wrong 23)
    unfolding after_keyword
    keyword_decides {word} f t e =
        rw (line.ends, line.front_is, line.rest_is, f.ends, f.front_is, f.rest_is, same_pointwise word keyword, ← e)

-- ---- the fields
abbrev pub of_rest : Bool → ℕ → Rest → Line
of_rest signs count (parts part rest) = fields signs count part rest
of_rest signs count (wrong n) = faulty n

-- a line with a field or more is its keyword and its fields
pub line_fields : (signs : Bool) (keyword : List ℕ) (count : ℕ) (s : List ℕ)
    → line signs keyword (suc count) s ≡ of_rest signs (suc count) (after_keyword keyword s)
unfolding line after_keyword fields
line_fields signs keyword count s =
    rw (words_split (before line_end s))
    (by (has line_end s) (has space (before line_end s)) (same_list eqb (before space (before line_end s)) keyword)
    (after space (before line_end s)) (after line_end s))
  where
    by : (e h k : Bool) (part rest : List ℕ)
        → cond e
        (cond (k && eqb (length (cond h (words part) [])) (suc count)) (of_numbers (all_numbers signs (cond h (words part) [])) rest)
        (faulty 23))
        (faulty 22)
        ≡ of_rest signs (suc count) (cond e (cond (h && k) (parts part rest) (wrong 23)) (wrong 22))
    by false h k part rest = refl
    by true true true part rest = refl
    by true true false part rest = refl
    by true false true part rest = rw (eqb-zero-suc count)
    by true false false part rest = refl

-- as `read_keyword` tells what follows the keyword
pub parted : (signs : Bool) (keyword : List ℕ) (count : ℕ) (s : List ℕ) {rest : Rest} → rest ≡ after_keyword keyword s
    → line signs keyword (suc count) s ≡ of_rest signs (suc count) rest
parted signs keyword count s tells = line_fields signs keyword count s ∙ ap (of_rest signs (suc count)) (sym tells)

module _ (signs : Bool) (part rest : List ℕ) where
  -- the one word, where there is no space
  one_field : has space part ≡ false → fields signs 1 part rest ≡ of_numbers (both (number signs part) (some [])) rest
  unfolding fields all_numbers
  one_field e = rw (words_split part, e, before_all)
    where
      before_all : before space part ≡ part
      before_all =
          let k = length (before space part) in
          sym (before_take space part) ∙ take_all k part (ltb-false k (length part) (sym (has_before space part) ∙ e))

  pub too_many : has space part ≡ true → fields signs 1 part rest ≡ faulty 23
  unfolding fields
  too_many e = rw (words_split part, e, words_split (after space part), eqb-suc-suc, eqb-suc-zero)

  -- a number has no space
  pub field_number : (z : ℤ) → number signs part ≡ some z → fields signs 1 part rest ≡ numbers (z ∷ []) rest
  field_number z e = one_field plain ∙ ap (λ (n : Option ℤ). of_numbers (both n (some [])) rest) e
    where
      plain : has space part ≡ false
      plain = ap (has space) (number_is_decimal signs part z e).0 ∙ decimal_plain space (omega arith) z

  pub field_none : has space part ≡ false → number signs part ≡ none → fields signs 1 part rest ≡ faulty 24
  field_none h e = one_field h ∙ ap (λ (n : Option ℤ). of_numbers (both n (some [])) rest) e

-- a first number and those that follow it: their fault goes first, as it may be a wrong count
abbrev pub with_first : Option ℤ → Line → Line
with_first first (faulty n) = faulty n
with_first none (numbers zs rest) = faulty 24
with_first (some z) (numbers zs rest) = numbers (z ∷ zs) rest

-- two fields or more are the first and those after its space
module _ (signs : Bool) (count : ℕ) (part rest : List ℕ) where
  pub too_few : has space part ≡ false → fields signs (suc (suc count)) part rest ≡ faulty 23
  unfolding fields
  too_few e = rw (words_split part, e, eqb-suc-suc, eqb-zero-suc)

  pub first_field : {first others : List ℕ} → Around space part first others
      → fields signs (suc (suc count)) part rest ≡ with_first (number signs first) (fields signs (suc count) others rest)
  unfolding fields all_numbers
  first_field f =
      rw (← f.front_is, ← f.rest_is, words_split part, f.ends, eqb-suc-suc)
      (by (eqb (length (words (after space part))) (suc count)) (number signs (before space part))
      (all_numbers signs (words (after space part))))
    where
      by : (t : Bool) (first : Option ℤ) (others : Option (List ℤ)) → cond t (of_numbers (both first others) rest) (faulty 23)
          ≡ with_first first (cond t (of_numbers others rest) (faulty 23))
      by false first others = refl
      by true none none = refl
      by true none (some zs) = refl
      by true (some z) none = refl
      by true (some z) (some zs) = refl
