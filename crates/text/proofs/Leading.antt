-- The digits that a text begins with, digit by digit: they are its front, and all of it where it has only digits, few enough. A line end is
-- none, so they are the same of a text and of its first line.
use mathlib.Core.Path.{◌≡◌, refl, sym, ap, subst, ◌∙◌}
use mathlib.Core.Bool.{Bool, true, false, cond, true≢false, and-eq-true_iff}
use mathlib.Core.List.{List, [], ◌∷◌, ◌++◌}
use mathlib.Core.Option.{Option, none, some, some-injective}
use Prim.Native.Nat.{ℕ, zero, suc, ◌+◌, ◌-◌, ◌*◌, ◌^◌, ◌≤◌, ◌<◌}
use native.Mathlib.Numerals.{add-one}
use native.Mathlib.Omega.{arith}
use borrow.Author.Tests.{eqb-true, ne_eqb, leb-true}
use lib.Dec.{eqb}
use lib.IntN.{ℤ, pos}
use lib.ListN.{length, take, drop, get_or, length-append, take-append-drop}
use lib.Seq.{take_all, take-suc, split_at, drop_at}
use Rattle.std.proofs.Common.{Bor, Some, None}
use Rattle.std.specs.Prelude as P
use Rattle.std.specs.List.{prefix_len}
use Rattle.std.proofs.lemmas.List.{length-take}
use Rattle.std.proofs.lemmas.List.Sums.{take_while-cons}
use Rattle.algebra.specs.Table.{every}
use Rattle.text.specs.Bytes.{line_end}
use Rattle.text.specs.Lines.{before, after, has}
use Rattle.text.specs.Numbers.{zero_digit, is_digit, starts_with, is_numeral, value_from, value, number}
use Rattle.text.specs.declared.numbers.Digits.{Digits}
use Rattle.text.specs.Leading.{leading_digits, digits_of, with_place, number_line, with_rest, line_and_rest, line_found, place_found}
use Rattle.text.proofs.Words.{split_at_first, first_after}
use Rattle.text.proofs.Decimal.{value_small, value_append}
use Rattle.text.proofs.Read.{starts_split, numeral_tests, number_numeral, number_other}

-- ---- what they are
-- digits, n of them at most, and the front of the text
record Leads (n : ℕ) (s d : List ℕ) : Type 0 where
  are : every is_digit d ≡ true
  few : length d ≤ n
  front : take (length d) s ≡ d

leads : (n : ℕ) (s : List ℕ) → Leads n s (leading_digits n s)
unfolding leading_digits
leads zero s = record { are = refl; few = omega arith; front = refl }
leads (suc n) [] = record { are = refl; few = omega arith; front = refl }
leads (suc n) (b ∷ s) = by (is_digit b) refl (leads n s)
  where
    by : (t : Bool) → is_digit b ≡ t → Leads n s (leading_digits n s) → Leads (suc n) (b ∷ s) (cond t (b ∷ leading_digits n s) [])
    by true e l = record { are = rw (e, l.are); few = omega (arith, l.few); front = ap (λ (d : List ℕ). b ∷ d) l.front }
    by false e l = record { are = refl; few = omega arith; front = refl }

-- they are what `take_while` gives of the first n bytes
pub leading_taken : (n : ℕ) (s : List ℕ) → take (prefix_len is_digit (take n s)) (take n s) ≡ leading_digits n s
unfolding leading_digits
leading_taken zero s = refl
leading_taken (suc n) [] = refl
leading_taken (suc n) (b ∷ s) =
    take_while-cons is_digit b (take n s) ∙ ap (λ (d : List ℕ). cond (is_digit b) (b ∷ d) []) (leading_taken n s)

-- what passes in a whole passes in its first part and at the next element
every_first : (test : ℕ → Bool) (w : List ℕ) (b : ℕ) (t : List ℕ) → every test (w ++ (b ∷ t)) ≡ true
    → (every test w ≡ true) × (test b ≡ true)
every_first test [] b t e = (refl, ((and-eq-true_iff (test b) (every test t)).0 e).0)
every_first test (x ∷ w) b t e =
    let both = (and-eq-true_iff (test x) (every test (w ++ (b ∷ t)))).0 e in
    let later = every_first test w b t both.1 in
    (rw (both.0, later.0) refl, later.1)

-- the digit b after the first of them, w: those are 9 at most
pub record NextDigit (s w : List ℕ) (b : ℕ) : Type 0 where
  pub is : is_digit b ≡ true
  pub few : length w < 10
  pub small : value w < 10 ^ 9
  pub front : w ++ (b ∷ []) ≡ take (length w + 1) (leading_digits 10 s)
  pub stands : value (w ++ (b ∷ [])) ≡ value w * 10 + (b - zero_digit)

pub next_digit : (s w : List ℕ) (b : ℕ) → w ≡ take (length w) (leading_digits 10 s) → length w < length (leading_digits 10 s)
    → b ≡ get_or (leading_digits 10 s) (length w) b → NextDigit s w b
unfolding value_from
next_digit s w b front more at =
    let d = leading_digits 10 s in
    let found = leads 10 s in
    let whole = split_at d (length w) b more in
    let split : d ≡ w ++ (b ∷ drop (suc (length w)) d) = whole ∙ (λ i. sym front i ++ (sym at i ∷ drop (suc (length w)) d)) in
    let parts = every_first is_digit w b (drop (suc (length w)) d) (ap (every is_digit) (sym split) ∙ found.are) in
    record {
      is = parts.1;
      few = omega (arith, found.few);
      small = value_small 9 w parts.0 (omega (arith, found.few));
      front = (λ i. front i ++ (at i ∷ [])) ∙ sym (take-suc d (length w) b more) ∙ ap (λ (k : ℕ). take k d) (sym (add-one (length w)));
      stands = value_append 0 w (b ∷ []);
    }

-- where all bytes are digits, few enough, they are the text
leading_all : (n : ℕ) (w : List ℕ) → every is_digit w ≡ true → length w ≤ n → leading_digits n w ≡ w
unfolding leading_digits
leading_all zero [] e h = refl
leading_all zero (b ∷ w) e h = absurd (omega arith)
leading_all (suc n) [] e h = refl
leading_all (suc n) (b ∷ w) e h =
    let t = (and-eq-true_iff (is_digit b) (every is_digit w)).0 e in
    rw (t.0, leading_all n w t.1 (omega arith))

-- no digit is a line end, so those of the first line are those of the text
leading_before : (n : ℕ) (s : List ℕ) → leading_digits n (before line_end s) ≡ leading_digits n s
unfolding leading_digits before
leading_before zero s = refl
leading_before (suc n) [] = refl
leading_before (suc n) (b ∷ s) = by (eqb b line_end) refl (leading_before n s)
  where
    by : (t : Bool) → eqb b line_end ≡ t → leading_digits n (before line_end s) ≡ leading_digits n s
        → leading_digits (suc n) (cond t [] (b ∷ before line_end s)) ≡ cond (is_digit b) (b ∷ leading_digits n s) []
    by true e ih = rw (eqb-true b line_end e)
    by false e ih = rw ih

-- digits alone have none
no_line_end : (w : List ℕ) → every is_digit w ≡ true → has line_end w ≡ false
unfolding has
no_line_end [] e = refl
no_line_end (b ∷ w) e =
    let t = (and-eq-true_iff (is_digit b) (every is_digit w)).0 e in
    rw (ne_eqb b line_end (λ q. true≢false (sym t.0 ∙ ap is_digit q))) (no_line_end w t.1)

-- ---- numbers by them
-- a number's are all of it
numeral_leads : (w : List ℕ) → is_numeral w ≡ true → leading_digits 10 w ≡ w
numeral_leads w e = let t = numeral_tests w e in leading_all 10 w t.3 (leb-true (length w) 10 t.1)

-- what is found of a text s
module _ (s : List ℕ) (found : Digits) (e : found ≡ digits_of (leading_digits 10 s)) where
  counted : found.count ≡ length (leading_digits 10 s)
  counted = ap (λ (d : Digits). d.count) e

  stand : found.value ≡ value (leading_digits 10 s)
  stand = ap (λ (d : Digits). d.value) e

  front : take found.count s ≡ leading_digits 10 s
  front = ap (λ (k : ℕ). take k s) counted ∙ (leads 10 s).front

  pub front_digits : (length (take found.count s) ≤ 10) × (every is_digit (take found.count s) ≡ true)
  front_digits = rw front ((leads 10 s).few, (leads 10 s).are)

  pub found_small : found.value < 10 ^ 10
  found_small = omega (arith, stand, value_small 10 (leading_digits 10 s) (leads 10 s).are (leads 10 s).few)

  -- s is a number where they are all of it
  whole_word : found.count ≡ length s → leading_digits 10 s ≡ s
  whole_word h = sym front ∙ take_all found.count s (omega arith)

  pub within : found.count ≤ length s
  within = omega (arith, counted, ap length front, length-take found.count s)

  pub word_digits : found.count ≡ length s → (length s ≤ 10) × (every is_digit s ≡ true)
  word_digits h = subst (λ w. (length w ≤ 10) × (every is_digit w ≡ true)) (whole_word h) ((leads 10 s).few, (leads 10 s).are)

  pub word_number : found.count ≡ length s → is_numeral s ≡ true → number false s ≡ some (pos found.value)
  word_number h n = number_numeral s n ∙ ap (λ (v : ℕ). some (pos v)) (sym (stand ∙ ap value (whole_word h)))

  pub word_other : (found.count ≡ length s → ⊥) → number false s ≡ none
  word_other h = by (is_numeral s) refl
    where
      by : (t : Bool) → is_numeral s ≡ t → number false s ≡ none
      by true n = absurd (h (counted ∙ ap length (numeral_leads s n)))
      by false n = number_other s n

  -- and its first line is one where the line end follows them
  line_front : starts_with line_end (drop found.count s) ≡ true
      → (has line_end s ≡ true) × (before line_end s ≡ take found.count s) × (after line_end s ≡ drop 1 (drop found.count s))
  line_front ends =
      let rest = drop 1 (drop found.count s) in
      let text = sym (take-append-drop found.count s) ∙ ap (λ (l : List ℕ). take found.count s ++ l) (starts_split line_end _ ends) in
      let first = first_after line_end (take found.count s) rest (no_line_end (take found.count s) front_digits.1) in
      (ap (has line_end) text ∙ first.0, ap (before line_end) text ∙ first.1, ap (after line_end) text ∙ first.2)

  pub line_decides : starts_with line_end (drop found.count s) ≡ true → (t : Bool) → is_numeral (take found.count s) ≡ t
      → line_and_rest s ≡ cond t (some (pos found.value, drop 1 (drop found.count s))) none
  unfolding line_and_rest
  line_decides ends true n =
      let line = line_front ends in
      let stands = ap value front ∙ sym stand in
      rw (line.0, line.1, line.2, number_numeral (take found.count s) n) (λ i. some (pos (stands i), drop 1 (drop found.count s)))
  line_decides ends false n = let line = line_front ends in rw (line.0, line.1, number_other (take found.count s) n)

  pub line_other : starts_with line_end (drop found.count s) ≡ false → line_and_rest s ≡ none
  unfolding line_and_rest
  line_other other = by (has line_end s) refl (is_numeral line) refl
    where
      line : List ℕ
      line = before line_end s

      passed : is_numeral line ≡ true → found.count ≡ length line
      passed n = counted ∙ ap length (sym (leading_before 10 s) ∙ numeral_leads line n)

      end : has line_end s ≡ true → is_numeral line ≡ true → drop found.count s ≡ line_end ∷ after line_end s
      end t n =
          ap (λ (k : ℕ). drop k s) (passed n)
          ∙ ap (drop (length line)) (split_at_first line_end s t)
          ∙ drop_at line (line_end ∷ after line_end s) (length line) refl

      by : (p : Bool) → has line_end s ≡ p → (q : Bool) → is_numeral line ≡ q
          → cond p (with_rest (number false line) (after line_end s)) none ≡ none
      by false t q n = refl
      by true t false n = rw (number_other line n)
      by true t true n = absurd (true≢false (sym (ap (starts_with line_end) (end t n)) ∙ other))

-- ---- the place of the next line
-- as the bytes after the line tell it
module _ (s : List ℕ) where
  rest_length : has line_end s ≡ true → length s - length (after line_end s) ≡ length (before line_end s) + 1
  rest_length e =
      let whole = ap length (split_at_first line_end s e) ∙ length-append (before line_end s) (line_end ∷ after line_end s) in
      omega (arith, whole)

  pub next_place : (read : P.Option (ℕ × Bor (List ℕ))) → line_found read ≡ line_and_rest s → place_found s read ≡ number_line s
  unfolding number_line line_and_rest
  next_place read says = by (has line_end s) refl (number false (before line_end s)) read says
    where
      by : (t : Bool) → has line_end s ≡ t → (n : Option ℤ) (read : P.Option (ℕ × Bor (List ℕ)))
          → line_found read ≡ cond t (with_rest n (after line_end s)) none
          → place_found s read ≡ cond t (with_place n (length (before line_end s) + 1)) none
      by false e n None h = refl
      by false e n (Some p) h = cc
      by true e none None h = refl
      by true e none (Some p) h = cc
      by true e (some z) None h = cc
      by true e (some z) (Some (n, rest)) h =
          let both = some-injective _ _ h in
          ap (λ (l : List ℕ). some (pos n, length s - length l)) (ap (λ (q : ℤ × List ℕ). q.1) both)
          ∙ (λ i. some (ap (λ (q : ℤ × List ℕ). q.0) both i, rest_length e i))
