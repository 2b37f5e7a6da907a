-- Words as numbers: the rule of a number at each of the tests that the code makes, with and without a sign, and of a text's first line.
use mathlib.Core.Path.{◌≡◌, refl, sym, ap, ◌∙◌}
use mathlib.Core.Bool.{Bool, true, false, ◌&&◌, ◌||◌, not, cond, and-false, and-true, and-eq-true_iff, true≢false}
use mathlib.Core.List.{List, [], ◌∷◌}
use mathlib.Core.Option.{Option, none, some, some-injective, none-ne-some}
use Prim.Native.Nat.{ℕ, ◌+◌, ◌≤◌}
use borrow.Author.Tests.{eq-eqb, ne_eqb, leb-true, eqb-true}
use lib.Dec.{leb, eqb}
use lib.IntN.{ℤ, pos, neg_ℤ}
use lib.ListN.{length, take, drop}
use lib.Pointwise.{pointwise}
use Rattle.std.proofs.Common.{Some, None, Ok, Err}
use Rattle.std.specs.Prelude as P
use Rattle.std.specs.Option.{ok_or}
use Rattle.algebra.specs.Table.{every}
use Rattle.text.specs.Bytes.{line_end}
use Rattle.text.specs.Lines.{before, after, has}
use Rattle.text.specs.Numbers.{zero_digit, is_digit, minus, starts_with, is_numeral, value, negative_of, number, found}
use Rattle.text.specs.Leading.{with_place, number_line, with_rest, line_and_rest}

-- ---- the first byte
-- what `strip_prefix` tests
pub starts_prefix : (b : ℕ) (w : List ℕ) → starts_with b w ≡ pointwise eqb (take 1 w) (b ∷ [])
starts_prefix b [] = refl
starts_prefix b (x ∷ w) = sym (and-true (eqb x b))

pub starts_split : (b : ℕ) (w : List ℕ) → starts_with b w ≡ true → w ≡ b ∷ drop 1 w
starts_split b [] e = absurd (true≢false (sym e))
starts_split b (x ∷ w) e = ap (λ (y : ℕ). y ∷ w) (eqb-true x b e)

-- ---- digits
pub digit_range : (b : ℕ) → is_digit b ≡ true → (zero_digit ≤ b) × (b ≤ 0x39)
digit_range b e =
    let t = (and-eq-true_iff (leb zero_digit b) (leb b 0x39)).0 e in
    (leb-true zero_digit b t.0, leb-true b 0x39 t.1)

-- ---- numbers without a sign
-- tests that all passed
four : (p q r s : Bool) → (p && q && r && s) ≡ true → (p ≡ true) × (q ≡ true) × (r ≡ true) × (s ≡ true)
four true true true s e = (refl, refl, refl, e)
four true true false s e = absurd (true≢false (sym e))
four true false r s e = absurd (true≢false (sym e))
four false q r s e = absurd (true≢false (sym e))

module _ (w : List ℕ) where
  pub numeral_tests : is_numeral w ≡ true
      → (leb 1 (length w) ≡ true) × (leb (length w) 10 ≡ true) × ((eqb (length w) 1 || not (starts_with zero_digit w)) ≡ true)
      × (every is_digit w ≡ true)
  numeral_tests e = four (leb 1 (length w)) (leb (length w) 10) (eqb (length w) 1 || not (starts_with zero_digit w)) (every is_digit w) e

  pub number_numeral : is_numeral w ≡ true → number false w ≡ some (pos (value w))
  unfolding number
  number_numeral e = rw e

  pub number_other : is_numeral w ≡ false → number false w ≡ none
  unfolding number
  number_other e = rw e

  -- what the number says of the word
  numeral_none : number false w ≡ none → is_numeral w ≡ false
  unfolding number
  numeral_none e = by (is_numeral w) e
    where
      by : (t : Bool) → cond t (some (pos (value w))) none ≡ none → t ≡ false
      by true e' = cc
      by false e' = refl

  pub numeral_some : (z : ℤ) → number false w ≡ some z → (is_numeral w ≡ true) × (z ≡ pos (value w))
  unfolding number
  numeral_some z e = by (is_numeral w) e
    where
      by : (t : Bool) → cond t (some (pos (value w))) none ≡ some z → (t ≡ true) × (z ≡ pos (value w))
      by true e' = (refl, cc)
      by false e' = (cc, cc)

-- ---- numbers that may have one
pub negative_none : (w : List ℕ) → number false w ≡ none → negative_of w ≡ none
negative_none w e = rw (numeral_none w e)

pub negative_zero : (w : List ℕ) → value w ≡ 0 → negative_of w ≡ none
negative_zero w e = rw (eq-eqb (value w) 0 e, and-false (is_numeral w))

pub negative_value : (w : List ℕ) → is_numeral w ≡ true → (value w ≡ 0 → ⊥) → negative_of w ≡ some (neg_ℤ (pos (value w)))
negative_value w e h = rw (e, ne_eqb (value w) 0 h)

-- a minus sign is no digit
minus_no_digit : (w : List ℕ) → starts_with minus w ≡ true → every is_digit w ≡ false
minus_no_digit [] e = absurd (true≢false (sym e))
minus_no_digit (x ∷ w) e = rw (eqb-true x minus e)

pub number_minus : (w : List ℕ) → starts_with minus w ≡ true → number true w ≡ negative_of (drop 1 w)
unfolding number
number_minus w e = simp (minus_no_digit w e, e, and-false)

pub number_plain : (w : List ℕ) → starts_with minus w ≡ false → number true w ≡ number false w
unfolding number
number_plain w e = simp e

-- ---- what `ok_or` makes of a number that may be none
module _ {E : Type 0} (e : E) {told : Option ℤ} where
  pub found_yes : (read : P.Option ℤ) → found read ≡ told → {z : ℤ} → ok_or read e ≡ Ok z → told ≡ some z
  found_yes None says q = cc
  found_yes (Some y) says q = sym says ∙ ap some cc

  pub found_no : (read : P.Option ℤ) → found read ≡ told → {x : E} → ok_or read e ≡ Err x → (told ≡ none) × (e ≡ x)
  found_no None says q = (sym says, cc)
  found_no (Some y) says q = cc

-- ---- a first line that is a number
-- what is told of it
pub record TellsLine (s : List ℕ) (z : ℤ) (next : ℕ) : Type 0 where
  pub ends : has line_end s ≡ true
  pub is_number : number false (before line_end s) ≡ some z
  pub next_line : next ≡ length (before line_end s) + 1

pub tells_line : (s : List ℕ) (z : ℤ) (next : ℕ) → number_line s ≡ some (z, next) → TellsLine s z next
unfolding number_line
tells_line s z next e = by (has line_end s) refl (number false (before line_end s)) refl e
  where
    by : (p : Bool) → has line_end s ≡ p → (n : Option ℤ) → number false (before line_end s) ≡ n
        → cond p (with_place n (length (before line_end s) + 1)) none ≡ some (z, next) → TellsLine s z next
    by false t n m h = absurd (none-ne-some (z, next) h)
    by true t none m h = absurd (none-ne-some (z, next) h)
    by true t (some y) m h =
        let both = some-injective _ _ h in
        record { ends = t; is_number = m ∙ ap (λ (q : ℤ × ℕ). some q.0) both; next_line = sym (ap (λ (q : ℤ × ℕ). q.1) both) }

-- the same with the bytes after the line
pub record TellsRest (s : List ℕ) (z : ℤ) (rest : List ℕ) : Type 0 where
  pub ends : has line_end s ≡ true
  pub is_number : number false (before line_end s) ≡ some z
  pub others : after line_end s ≡ rest

pub tells_rest : (s : List ℕ) (z : ℤ) (rest : List ℕ) → line_and_rest s ≡ some (z, rest) → TellsRest s z rest
unfolding line_and_rest
tells_rest s z rest e = by (has line_end s) refl (number false (before line_end s)) refl e
  where
    by : (p : Bool) → has line_end s ≡ p → (n : Option ℤ) → number false (before line_end s) ≡ n
        → cond p (with_rest n (after line_end s)) none ≡ some (z, rest) → TellsRest s z rest
    by false t n m h = absurd (none-ne-some (z, rest) h)
    by true t none m h = absurd (none-ne-some (z, rest) h)
    by true t (some y) m h =
        let both = some-injective _ _ h in
        record { ends = t; is_number = m ∙ ap (λ (q : ℤ × List ℕ). some q.0) both; others = ap (λ (q : ℤ × List ℕ). q.1) both }
