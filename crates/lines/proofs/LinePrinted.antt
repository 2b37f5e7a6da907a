-- A printed line reads back: its line end is the first, its words are the keyword and the numbers, and each number reads back. It is short
-- since each number has at most 11 bytes.
use mathlib.Core.Path.{◌≡◌, refl}
use mathlib.Core.Bool.{Bool, true, false}
use mathlib.Core.List.{List, [], ◌∷◌, ◌++◌, map}
use mathlib.Core.Option.{some}
use Prim.Native.Nat.{ℕ, ◌+◌, ◌*◌, ◌≤◌}
use native.Mathlib.Omega.{arith}
use borrow.Author.Tests.{eq-eqb}
use lib.Dec.{eqb}
use lib.IntN.{ℤ, pos, negsuc}
use lib.ListN.{length, length-append, length-map}
use Rattle.algebra.proofs.Table.{same_itself}
use Rattle.text.specs.Bytes.{line_end, space}
use Rattle.text.specs.Lines.{has, spaced}
use Rattle.text.specs.Numbers.{AtMostTenDigits, sign_fits, decimal}
use Rattle.text.specs.LineText.{line_text}
use Rattle.text.proofs.Words.{words_of_joined}
use Rattle.text.proofs.Decimal.{decimal_length, decimal_is_number}
use Rattle.text.proofs.LineText.{no_space, line_text_first}
use Rattle.lines.specs.Line.{numbers, all_numbers, line}

-- ---- numbers that a line can hold: at most 10 digits each, and a sign only where it may be
pub data Held (signs : Bool) : List ℤ → Type 0 where
  none : Held signs []
  more : {z : ℤ} {zs : List ℤ} → AtMostTenDigits z → sign_fits signs z ≡ true → Held signs zs → Held signs (z ∷ zs)

pub one : {n : ℕ} → AtMostTenDigits (pos n) → Held false (pos n ∷ [])
one d = more d refl none

pub two : {m n : ℕ} → AtMostTenDigits (pos m) → AtMostTenDigits (pos n) → Held false (pos m ∷ pos n ∷ [])
two c d = more c refl (one d)

any_sign : (z : ℤ) → sign_fits true z ≡ true
any_sign (pos n) = refl
any_sign (negsuc n) = refl

pub two_signed : (y z : ℤ) → AtMostTenDigits y → AtMostTenDigits z → Held true (y ∷ z ∷ [])
two_signed y z c d = more c (any_sign y) (more d (any_sign z) none)

-- ---- the numbers of a line
module _ {signs : Bool} where
  all_numbers_lem : {zs : List ℤ} → Held signs zs → all_numbers signs (map decimal zs) ≡ some zs
  unfolding all_numbers
  all_numbers_lem none = refl
  all_numbers_lem (more {z = z} d e held) = rw (decimal_is_number signs z d e, all_numbers_lem held)

  numbers_length : {zs : List ℤ} → Held signs zs → length (spaced (map decimal zs)) ≤ 12 * length zs
  unfolding spaced
  numbers_length none = omega arith
  numbers_length (more {z = z} d e held) = simp length-append (omega (arith, decimal_length z d, numbers_length held))

-- ---- the line
module _ (keyword : List ℕ) {signs : Bool} {zs : List ℤ} (held : Held signs zs) where
  -- the keyword is one word, which computes for those of a sheet
  pub line_printed : has space keyword ≡ false → has line_end keyword ≡ false → (rest : List ℕ)
      → line signs keyword (length zs) (line_text keyword zs ++ rest) ≡ numbers zs rest
  unfolding line
  line_printed one_word one_line rest =
      let end = line_text_first keyword zs rest one_line in
      rw (
        end.0,
        end.1,
        end.2,
        words_of_joined keyword (map decimal zs) one_word (no_space zs),
        same_itself ℕ eqb (λ b. eq-eqb b b refl) keyword,
        length-map zs decimal,
        eq-eqb (length zs) (length zs) refl,
        all_numbers_lem held,
      )

  pub line_length : length (line_text keyword zs) ≤ length keyword + 12 * length zs + 1
  unfolding line_text
  line_length = simp length-append (omega (arith, numbers_length held))
