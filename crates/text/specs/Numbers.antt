-- Numbers in decimal: "A number is 1 to 10 digits, no leading zero except `0` itself; a minus sign is allowed before a nonzero TERM number
-- only."
use Rattle.std.specs.Prelude.{◌≡◌, ◌↔◌, Bool, true, false, ◌&&◌, ◌||◌, not, cond, List, [], ◌∷◌, ◌++◌, ℕ, zero, suc, ◌+◌, ◌-◌, ◌*◌, ◌/◌, ◌%◌, ◌^◌, ◌<◌, leb, eqb, ltb, ℤ, pos, negsuc, neg_ℤ, nat_abs, length, drop}
use Rattle.std.specs.Prelude.{Some, None}
use Rattle.std.specs.Prelude as P
use Rattle.std.proofs.Math.Option.{Option, none, some}
use Rattle.algebra.specs.Table.{every}

-- ---- reading
-- the bytes `0` to `9`, and `-`
abbrev pub zero_digit : ℕ
zero_digit = 0x30

abbrev pub is_digit : ℕ → Bool
is_digit b = leb zero_digit b && leb b 0x39

abbrev pub minus : ℕ
minus = 0x2D

-- the first byte of w is b
abbrev pub starts_with : ℕ → List ℕ → Bool
starts_with b [] = false
starts_with b (x ∷ w) = eqb x b

-- "1 to 10 digits, no leading zero except `0` itself"
abbrev pub is_numeral : List ℕ → Bool
is_numeral w = leb 1 (length w) && leb (length w) 10 && (eqb (length w) 1 || not (starts_with zero_digit w)) && every is_digit w

-- what digits stand for after a number n that goes before them
unfoldable pub value_from : ℕ → List ℕ → ℕ
value_from n [] = n
value_from n (b ∷ w) = value_from (n * 10 + (b - zero_digit)) w

abbrev pub value : List ℕ → ℕ
value w = value_from 0 w

-- "a minus sign .. before a nonzero .. number": the number that digits are after one
abbrev pub negative_of : List ℕ → Option ℤ
negative_of w = cond (is_numeral w && not (eqb (value w) 0)) (some (neg_ℤ (pos (value w)))) none

-- the number that a word is; `signs` says whether it may have a sign
unfoldable pub number : Bool → List ℕ → Option ℤ
number signs w = cond (is_numeral w) (some (pos (value w))) (cond (signs && starts_with minus w) (negative_of (drop 1 w)) none)

-- what the code finds, as the definition says it
abbrev pub found : P.Option ℤ → Option ℤ
found (Some x) = some x
found None = none

-- ---- writing
abbrev pub digit : ℕ → List ℕ
digit d = (zero_digit + d) ∷ []

-- the digits of a number below 10 ^ (steps + 1)
unfoldable pub digits_within : ℕ → ℕ → List ℕ
digits_within zero n = digit n
digits_within (suc steps) n = cond (ltb n 10) (digit n) (digits_within steps (n / 10) ++ digit (n % 10))

-- 20 digits hold every number of 64 bits
abbrev pub digits : ℕ → List ℕ
digits n = digits_within 19 n

unfoldable pub decimal : ℤ → List ℕ
decimal (pos n) = digits n
decimal (negsuc n) = minus ∷ digits (suc n)

-- at most 10 digits, with or without a sign
abbrev pub AtMostTenDigits : ℤ → Type 0
AtMostTenDigits z = nat_abs z < 10 ^ 10

-- whether a sign is there only where it may be
abbrev pub sign_fits : Bool → ℤ → Bool
sign_fits signs (pos n) = true
sign_fits signs (negsuc n) = signs

-- ---- what is proved of them
-- a word that is a number is that number's decimal text
abbrev pub NumberIsDecimal : Type 0
NumberIsDecimal = (signs : Bool) (w : List ℕ) (z : ℤ) → number signs w ≡ some z
    → (w ≡ decimal z) × AtMostTenDigits z × (sign_fits signs z ≡ true)

-- and the decimal text of a number is that number
abbrev pub DecimalIsNumber : Type 0
DecimalIsNumber = (signs : Bool) (z : ℤ) → AtMostTenDigits z → sign_fits signs z ≡ true → number signs (decimal z) ≡ some z

-- w is the decimal text of z, and z may stand there
abbrev pub IsDecimal : Bool → List ℕ → ℤ → Type 0
IsDecimal signs w z = (w ≡ decimal z) × AtMostTenDigits z × (sign_fits signs z ≡ true)

-- so every word, the empty one too, is the number z just where it is the text of z and z may stand there, and none just where there is no
-- such z
abbrev pub NumberExactly : Type 0
NumberExactly = (signs : Bool) (w : List ℕ)
    → ((z : ℤ) → (number signs w ≡ some z) ↔ IsDecimal signs w z) × ((number signs w ≡ none) ↔ ((z : ℤ) → IsDecimal signs w z → ⊥))

-- no two numbers have the same decimal text
abbrev pub DecimalInjective : Type 0
DecimalInjective = (y z : ℤ) → decimal y ≡ decimal z → y ≡ z
