-- A written number reads back, since its last digit is the last that is read. A word that is read is written again, byte after byte: each
-- byte is the last digit of the number so far.
use mathlib.Core.Path.{◌≡◌, refl, sym, ap, ◌∙◌, subst}
use mathlib.Core.Bool.{Bool, true, false, ◌&&◌, ◌||◌, not, cond, true≢false, false≢true, or-true, and-false, and-eq-true_iff}
use mathlib.Core.List.{List, [], ◌∷◌, ◌++◌, append-nil, append_assoc, tail-eq_of_cons-eq}
use mathlib.Core.Option.{Option, none, some, some-injective, none-ne-some}
use Prim.Native.Nat.{ℕ, zero, suc, ◌+◌, ◌-◌, ◌*◌, ◌/◌, ◌%◌, ◌^◌, ◌≤◌, ◌<◌}
use native.Mathlib.Nat as NL
use native.Mathlib.Omega.{arith}
use borrow.Author.Tests.{ltb-true, ltb-false, leb-true, eqb-true, eqb-false, le-ltb, lt-ltb, le-leb, ne_eqb, not-true}
use lib.Dec.{eqb, ltb, eqb-suc-zero}
use lib.IntN.{ℤ, pos, negsuc, neg_ℤ, nat_abs}
use lib.ListN.{length, drop, length-append}
use Rattle.algebra.specs.Table.{every}
use Rattle.algebra.proofs.Or.{or_no}
use Rattle.algebra.proofs.Table.{every_append}
use Rattle.text.specs.Lines.{has}
use Rattle.text.specs.Numbers.{zero_digit, is_digit, minus, starts_with, is_numeral, value_from, value, negative_of, number}
use Rattle.text.specs.Numbers.{digit, digits_within, digits, decimal, AtMostTenDigits}
use Rattle.text.specs.Numbers.{IsDecimal, NumberIsDecimal, DecimalIsNumber, NumberExactly, DecimalInjective}
use Rattle.text.proofs.Read.{digit_range, numeral_tests}
use Rattle.text.proofs.Words.{has_append}

-- the digits of n have a property where one digit has it for n below 10, and a tenth's digits with one more for the others
by_size : (P : List ℕ → Type 0) (steps n : ℕ) → (n < 10 → P (digit n)) → (10 ≤ n → P (digits_within steps (n / 10) ++ digit (n % 10)))
    → P (digits_within (suc steps) n)
unfolding digits_within
by_size P steps n one more = by (ltb n 10) refl
  where
    by : (q : Bool) → ltb n 10 ≡ q → P (cond q (digit n) (digits_within steps (n / 10) ++ digit (n % 10)))
    by true t = one (ltb-true n 10 t)
    by false t = more (ltb-false n 10 t)

-- ---- what is written reads back
pub value_append : (n : ℕ) (s t : List ℕ) → value_from n (s ++ t) ≡ value_from (value_from n s) t
unfolding value_from
value_append n [] t = refl
value_append n (b ∷ s) t = value_append (n * 10 + (b - zero_digit)) s t

value_digit : (n d : ℕ) → value_from n (digit d) ≡ n * 10 + d
unfolding value_from
value_digit n d = omega arith

value_digits : (steps n : ℕ) → value (digits_within steps n) ≡ n
unfolding digits_within
value_digits zero n = omega (arith, value_digit 0 n)
value_digits (suc steps) n = by_size (λ w. value w ≡ n) steps n (λ l. omega (arith, value_digit 0 n))
    (λ l. value_append 0 (digits_within steps (n / 10)) (digit (n % 10)) ∙ value_digit (value (digits_within steps (n / 10))) (n % 10)
    ∙ omega (arith, value_digits steps (n / 10)))

-- ---- what is written: digits only, not too many, and no leading zero
digit_is : (d : ℕ) → d < 10 → every is_digit (digit d) ≡ true
digit_is d h = rw (le-leb zero_digit (zero_digit + d) (omega arith), le-leb (zero_digit + d) 0x39 (omega arith))

digits_are : (steps n : ℕ) → n < 10 ^ suc steps → every is_digit (digits_within steps n) ≡ true
unfolding digits_within
digits_are zero n h = digit_is n h
digits_are (suc steps) n h = by_size (λ w. every is_digit w ≡ true) steps n (digit_is n)
    (λ l. every_append _ is_digit (digits_within steps (n / 10)) (digit (n % 10))
    (digits_are steps (n / 10) (omega arith)) (digit_is (n % 10) (omega arith)))

-- k + 1 digits are enough below 10 ^ (k + 1), whatever the steps
length_within : (steps k n : ℕ) → n < 10 ^ suc k → length (digits_within steps n) ≤ suc k
unfolding digits_within
length_within zero k n h = omega arith
length_within (suc steps) zero n h = by_size (λ w. length w ≤ 1) steps n (λ l. omega arith) (λ l. absurd (omega arith))
length_within (suc steps) (suc k) n h = by_size (λ w. length w ≤ suc (suc k)) steps n (λ l. omega arith)
    (λ l. simp length-append (omega (arith, length_within steps k (n / 10) (omega arith))))

pub digits_length : (k n : ℕ) → n < 10 ^ suc k → length (digits n) ≤ suc k
digits_length k n h = length_within 19 k n h

-- and steps + 1 digits are all that is written, whatever the number
length_most : (steps n : ℕ) → length (digits_within steps n) ≤ suc steps
unfolding digits_within
length_most zero n = omega arith
length_most (suc steps) n = by_size (λ w. length w ≤ suc (suc steps)) steps n (λ l. omega arith)
    (λ l. simp length-append (omega (arith, length_most steps (n / 10))))

-- a sign is one byte more
sign_length : (z : ℤ) → length (decimal z) ≤ suc (length (digits (nat_abs z)))
unfolding decimal
sign_length (pos n) = omega arith
sign_length (negsuc n) = omega arith

pub decimal_length : (z : ℤ) → AtMostTenDigits z → length (decimal z) ≤ 11
decimal_length z h = omega (arith, sign_length z, digits_length 9 (nat_abs z) h)

pub decimal_short : (z : ℤ) → length (decimal z) ≤ 21
decimal_short z = omega (arith, sign_length z, length_most 19 (nat_abs z))

-- a number above 0 starts with another digit, whatever follows it
starts : (steps n : ℕ) (t : List ℕ) → 0 < n → starts_with zero_digit (digits_within steps n ++ t) ≡ false
unfolding digits_within
starts zero n t h = ne_eqb (zero_digit + n) zero_digit (omega arith)
starts (suc steps) n t h = by_size (λ w. starts_with zero_digit (w ++ t) ≡ false) steps n
    (λ l. ne_eqb (zero_digit + n) zero_digit (omega arith))
    (λ l. rw append_assoc (starts steps (n / 10) (digit (n % 10) ++ t) (omega arith)))

-- no byte below the digit 0 is written
digit_plain : (b : ℕ) → b < zero_digit → (d : ℕ) → has b (digit d) ≡ false
unfolding has
digit_plain b h d = rw (ne_eqb (zero_digit + d) b (omega arith))

digits_plain : (b : ℕ) → b < zero_digit → (steps n : ℕ) → has b (digits_within steps n) ≡ false
unfolding digits_within
digits_plain b h zero n = digit_plain b h n
digits_plain b h (suc steps) n = by_size (λ w. has b w ≡ false) steps n (λ l. digit_plain b h n)
    (λ l. has_append b (digits_within steps (n / 10)) (digit (n % 10))
    ∙ ap (λ (q : Bool). q || has b (digit (n % 10))) (digits_plain b h steps (n / 10)) ∙ digit_plain b h (n % 10))

-- but a minus sign may be: a space or a line end is below that too
pub decimal_plain : (b : ℕ) → b < minus → (z : ℤ) → has b (decimal z) ≡ false
unfolding decimal has
decimal_plain b h (pos n) = digits_plain b (omega arith) 19 n
decimal_plain b h (negsuc n) = rw (ne_eqb minus b (omega arith)) (digits_plain b (omega arith) 19 (suc n))

digits_numeral : (n : ℕ) → n < 10 ^ 10 → is_numeral (digits n) ≡ true
digits_numeral n h =
    rw (le-leb 1 (length (digits n)) some_digit, le-leb (length (digits n)) 10 (digits_length 9 n h), lead) (digits_are 19 n (omega arith))
  where
    some_digit : 1 ≤ length (digits n)
    some_digit = by_size (λ w. 1 ≤ length w) 18 n (λ l. omega arith) (λ l. simp length-append (omega arith))

    lead : (eqb (length (digits n)) 1 || not (starts_with zero_digit (digits n))) ≡ true
    lead = by_size (λ w. (eqb (length w) 1 || not (starts_with zero_digit w)) ≡ true) 18 n (λ l. refl)
        (λ l. simp (starts 18 (n / 10) (digit (n % 10)) (omega arith), or-true))

pub decimal_is_number : DecimalIsNumber
unfolding number decimal
decimal_is_number signs (pos n) h e = rw (digits_numeral n h) (ap (λ (v : ℕ). some (pos v)) (value_digits 19 n))
decimal_is_number false (negsuc n) h e = absurd (false≢true e)
decimal_is_number true (negsuc n) h e = rw (and-false _, digits_numeral (suc n) h, value_digits 19 (suc n), eqb-suc-zero n)

-- ---- what is read is written again
same_digit : (b : ℕ) → is_digit b ≡ true → digit (b - zero_digit) ≡ b ∷ []
same_digit b e = ap (λ (x : ℕ). x ∷ []) (omega (arith, digit_range b e))

pub digits_small : (steps n : ℕ) → n < 10 → digits_within steps n ≡ digit n
unfolding digits_within
digits_small zero n h = refl
digits_small (suc steps) n h = rw (lt-ltb n 10 h)

-- a number above 9 has the digits of its tenth, and one more
pub digits_last : (steps n : ℕ) → 10 ≤ n → digits_within (suc steps) n ≡ digits_within steps (n / 10) ++ digit (n % 10)
unfolding digits_within
digits_last steps n h = rw (le-ltb n 10 h)

-- where the steps are enough for it, one less is enough for its tenth
pub tenth_within : (steps n : ℕ) → 10 ≤ n → n < 10 ^ suc steps → (0 < steps) × (n / 10 < 10 ^ steps)
tenth_within zero n h k = absurd (omega arith)
tenth_within (suc steps) n h k = (omega arith, omega arith)

-- a number with one digit more
digits_next : (steps n d : ℕ) → 0 < n → d < 10 → digits_within (suc steps) (n * 10 + d) ≡ digits_within steps n ++ digit d
digits_next steps n d h k =
    let tenth : (n * 10 + d) / 10 ≡ n = omega arith in
    let last : (n * 10 + d) % 10 ≡ d = omega arith in
    rw (tenth, last) at (digits_last steps (n * 10 + d) (omega arith))

-- and with all digits of w more: then it is not 0
digits_more : (steps n : ℕ) (w : List ℕ) → (0 < length w → 0 < n) → every is_digit w ≡ true
    → digits_within (steps + length w) (value_from n w) ≡ digits_within steps n ++ w
unfolding value_from
digits_more steps n [] h e = rw (NL.add-zero, append-nil)
digits_more steps n (b ∷ w) h e =
    let t = (and-eq-true_iff (is_digit b) (every is_digit w)).0 e in
    let above : 0 < n = h (omega arith) in
    ap (λ (k : ℕ). digits_within k (value_from (n * 10 + (b - zero_digit)) w)) (omega arith)
    ∙ digits_more (suc steps) (n * 10 + (b - zero_digit)) w (λ l. omega arith) t.1
    ∙ ap (λ (l : List ℕ). l ++ w) (digits_next steps n (b - zero_digit) above (omega (arith, digit_range b t.0)))
    ∙ append_assoc (digits_within steps n) (digit (b - zero_digit)) w
    ∙ ap (λ (l : List ℕ). digits_within steps n ++ (l ++ w)) (same_digit b t.0)

numeral_written : (w : List ℕ) → is_numeral w ≡ true → w ≡ digits (value w)
unfolding value_from
numeral_written [] e = absurd (false≢true e)
numeral_written (b ∷ w) e =
    let one = eqb (suc (length w)) 1 in
    let other = not (eqb b zero_digit) in
    let t = numeral_tests (b ∷ w) e in
    let each = (and-eq-true_iff (is_digit b) (every is_digit w)).0 t.3 in
    let range = digit_range b each.0 in
    let few : suc (length w) ≤ 10 = leb-true (suc (length w)) 10 t.1 in
    let lead : 0 < length w → other ≡ true = λ l. or_no one other (ne_eqb (suc (length w)) 1 (omega arith)) ∙ t.2 in
    let above : 0 < length w → 0 < b - zero_digit = λ l. omega (arith, eqb-false b zero_digit (not-true (eqb b zero_digit) (lead l))) in
    rw (NL.zero-add (b - zero_digit)) (sym (
    ap (λ (k : ℕ). digits_within k (value_from (b - zero_digit) w)) (omega arith)
    ∙ digits_more (19 - length w) (b - zero_digit) w above each.1
    ∙ ap (λ (l : List ℕ). l ++ w) (digits_small (19 - length w) (b - zero_digit) (omega arith) ∙ same_digit b each.0)
    ))

value_below : (n : ℕ) (w : List ℕ) → every is_digit w ≡ true → value_from n w < suc n * 10 ^ length w
unfolding value_from
value_below n [] e = omega arith
value_below n (b ∷ w) e =
    let t = (and-eq-true_iff (is_digit b) (every is_digit w)).0 e in
    let next = n * 10 + (b - zero_digit) in
    let most : suc next ≤ suc n * 10 = omega (arith, digit_range b t.0) in
    rw (NL.pow-suc 10 (length w)) (omega (arith, value_below next w t.1, NL.mul-le-mul_right (10 ^ length w) most))

pub value_small : (k : ℕ) (w : List ℕ) → every is_digit w ≡ true → length w ≤ k → value w < 10 ^ k
value_small k w e h = omega (arith, value_below 0 w e, NL.pow-le-pow_right {n = 10} (omega arith) h)

pub numeral_below : (w : List ℕ) → is_numeral w ≡ true → value w < 10 ^ 10
numeral_below w e = let t = numeral_tests w e in value_small 10 w t.3 (leb-true (length w) 10 t.1)

-- what a word is that is a number
negative_said : (w : List ℕ) (z : ℤ) → starts_with minus w ≡ true → negative_of (drop 1 w) ≡ some z → IsDecimal true w z
unfolding decimal
negative_said [] z m e = absurd (false≢true m)
negative_said (b ∷ w) z m e = by (is_numeral w) refl (value w) refl e
  where
    by : (p : Bool) → is_numeral w ≡ p → (n : ℕ) → value w ≡ n → cond (p && not (eqb n 0)) (some (neg_ℤ (pos n))) none ≡ some z
        → IsDecimal true (b ∷ w) z
    by false t n v h = absurd (none-ne-some z h)
    by true t zero v h = absurd (none-ne-some z h)
    by true t (suc n) v h = subst (IsDecimal true (b ∷ w)) (some-injective _ _ (rw (eqb-suc-zero n) at h)) (
      (λ i. eqb-true b minus m i ∷ (numeral_written w t ∙ ap digits v) i),
      subst (λ k. k < 10 ^ 10) v (numeral_below w t),
      refl,
    )

pub number_is_decimal : NumberIsDecimal
unfolding number decimal
number_is_decimal signs w z e = by signs (is_numeral w) refl (starts_with minus w) refl e
  where
    by : (signs : Bool) (p : Bool) → is_numeral w ≡ p → (q : Bool) → starts_with minus w ≡ q
        → cond p (some (pos (value w))) (cond (signs && q) (negative_of (drop 1 w)) none) ≡ some z → IsDecimal signs w z
    by signs true t q u h = subst (IsDecimal signs w) (some-injective _ _ h) (numeral_written w t, numeral_below w t, refl)
    by true false t true u h = negative_said w z u h
    by true false t false u h = absurd (none-ne-some z h)
    by false false t q u h = absurd (none-ne-some z h)

pub number_exactly : NumberExactly
number_exactly signs w = (
  λ z. (number_is_decimal signs w z, read_back z),
  (λ e z d. none-ne-some z (sym e ∙ read_back z d), by (number signs w) refl),
)
  where
    read_back : (z : ℤ) → IsDecimal signs w z → number signs w ≡ some z
    read_back z d = ap (number signs) d.0 ∙ decimal_is_number signs z d.1 d.2

    by : (o : Option ℤ) → number signs w ≡ o → ((z : ℤ) → IsDecimal signs w z → ⊥) → o ≡ none
    by none e h = refl
    by (some z) e h = absurd (h z (number_is_decimal signs w z e))

-- ---- no two numbers have the same text
digits_injective : (m n : ℕ) → digits m ≡ digits n → m ≡ n
digits_injective m n e = sym (value_digits 19 m) ∙ ap value e ∙ value_digits 19 n

-- a minus sign tells numbers below zero from the others
signs_differ : (m n : ℕ) → digits m ≡ minus ∷ digits n → ⊥
unfolding has
signs_differ m n e = true≢false (sym (ap (has minus) e) ∙ digits_plain minus (omega arith) 19 m)

pub decimal_injective : DecimalInjective
unfolding decimal
decimal_injective (pos m) (pos n) e = ap pos (digits_injective m n e)
decimal_injective (pos m) (negsuc n) e = absurd (signs_differ m (suc n) e)
decimal_injective (negsuc m) (pos n) e = absurd (signs_differ n (suc m) (sym e))
decimal_injective (negsuc m) (negsuc n) e = ap negsuc (NL.suc_inj (digits_injective (suc m) (suc n) (tail-eq_of_cons-eq e)))
