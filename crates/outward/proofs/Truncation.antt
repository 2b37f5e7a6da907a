-- Machine division rounds towards zero, and its remainder has the sign of what is divided. So the floor is the quotient, or one less where
-- the remainder is below zero; the ceiling is the quotient, or one more where it is above zero. A number fits by its magnitude `mag`, and
-- neither quotient, remainder, floor nor ceiling has a larger one than the number that is divided.
use mathlib.Core.Path.{◌≡◌, refl, sym, ap, ◌∙◌}
use mathlib.Core.Bool.{Bool, true, false, true≢false}
use Prim.Native.Nat.{ℕ, zero, suc, ◌/◌, ◌%◌, ◌≤◌, ◌<◌, ◌^◌, zero-le, suc-le-suc}
use native.Mathlib.Nat.{div-le_self, lt_of_le_of_lt, le_of_suc-le-suc, zero-div, zero-mod}
use native.Mathlib.Numerals.{add-one}
use native.Mathlib.Omega.{arith}
use borrow.Author.Tests.{le-ltb, ltb-true, ltb-false, ne_eqb}
use lib.Dec.{eqb}
use lib.IntN.{ℤ, pos, negsuc, neg_ℤ, nat_abs, ◌+ℤ◌, ◌-ℤ◌, -ℤ_one, +ℤ_idr}
use lib.Signed.{mag, quot_z, rem_z, lt_z, mag_rem}
use mir.Syntax.{w64}
use mir.Val.{SFits, to_z, of_z, bool_byte}
use mir.Facts.{to_z-of_z, to_z_pos}
use Rattle.algebra.specs.Table.{same_integer}
use Rattle.algebra.proofs.Bits.{bits_same}
use Rattle.outward.specs.Division.{floor_div, ceil_div, divides}
use Rattle.outward.proofs.Division.{next_whole, next_rest}

-- ---- by the sign of the remainder
below : (r : ℕ) → lt_z (neg_ℤ (pos r)) (pos 0) ≡ true → 0 < r
below zero e = absurd (true≢false (sym e))
below (suc r) e = omega arith

not_below : (r : ℕ) → lt_z (neg_ℤ (pos r)) (pos 0) ≡ false → r ≡ 0
not_below zero e = refl
not_below (suc r) e = absurd (true≢false e)

no_more : (r : ℕ) → lt_z (pos 0) (neg_ℤ (pos r)) ≡ false
no_more zero = refl
no_more (suc r) = refl

one_less : (q : ℕ) → neg_ℤ (pos q) -ℤ pos 1 ≡ negsuc q
one_less zero = refl
one_less (suc q) = -ℤ_one (negsuc q)

module _ (d : ℕ) (l : 1 ≤ d) where
  floor_is_quotient : (z : ℤ) → quot_z z (pos d) -ℤ pos (bool_byte (lt_z (rem_z z (pos d)) (pos 0))) ≡ floor_div z d
  unfolding floor_div
  floor_is_quotient (pos a) = rw (le-ltb (a % d) 0 zero-le) (+ℤ_idr (pos (a / d)))
  floor_is_quotient (negsuc a) = by (lt_z (rem_z (negsuc a) (pos d)) (pos 0)) refl
    where
      by : (b : Bool) → lt_z (neg_ℤ (pos (suc a % d))) (pos 0) ≡ b → neg_ℤ (pos (suc a / d)) -ℤ pos (bool_byte b) ≡ negsuc (a / d)
      by true e = rw (next_rest a d l (below (suc a % d) e)) (one_less (a / d))
      by false e = rw (next_whole a d l (not_below (suc a % d) e)) (+ℤ_idr (neg_ℤ (pos (suc (a / d)))))

  ceil_is_quotient : (z : ℤ) → quot_z z (pos d) +ℤ pos (bool_byte (lt_z (pos 0) (rem_z z (pos d)))) ≡ ceil_div z d
  unfolding ceil_div floor_div
  ceil_is_quotient (pos zero) = rw (zero-div d, zero-mod d) refl
  ceil_is_quotient (pos (suc a)) = by (lt_z (pos 0) (pos (suc a % d))) refl
    where
      by : (b : Bool) → lt_z (pos 0) (pos (suc a % d)) ≡ b → pos (suc a / d) +ℤ pos (bool_byte b) ≡ pos (suc (a / d))
      by true e = rw (next_rest a d l (ltb-true 0 (suc a % d) e)) (ap pos (add-one (a / d)))
      by false e = rw (next_whole a d l (omega (arith, ltb-false 0 (suc a % d) e))) (+ℤ_idr (pos (suc (a / d))))
  ceil_is_quotient (negsuc a) = rw (no_more (suc a % d)) (+ℤ_idr (neg_ℤ (pos (suc a / d))))

-- ---- by the magnitude
quotient_mag : (z : ℤ) (d : ℕ) → mag (quot_z z (pos d)) ≤ mag z
quotient_mag (pos a) d = div-le_self a d
quotient_mag (negsuc a) d = negative (suc a / d) (div-le_self (suc a) d)
  where
    negative : (q : ℕ) → q ≤ suc a → mag (neg_ℤ (pos q)) ≤ a
    negative zero h = zero-le
    negative (suc q) h = le_of_suc-le-suc h

floor_mag : (z : ℤ) (d : ℕ) → mag (floor_div z d) ≤ mag z
unfolding floor_div
floor_mag (pos a) d = div-le_self a d
floor_mag (negsuc a) d = div-le_self a d

ceil_mag : (z : ℤ) (d : ℕ) → mag (ceil_div z d) ≤ mag z
unfolding ceil_div floor_div
ceil_mag (pos zero) d = rw (zero-div d) zero-le
ceil_mag (pos (suc a)) d = suc-le-suc (div-le_self a d)
ceil_mag (negsuc a) d = quotient_mag (negsuc a) d

zero_remainder : (z : ℤ) (d : ℕ) → same_integer (rem_z z (pos d)) (pos 0) ≡ eqb (nat_abs z % d) 0
zero_remainder (pos a) d = refl
zero_remainder (negsuc a) d = turned (suc a % d)
  where
    turned : (r : ℕ) → same_integer (neg_ℤ (pos r)) (pos 0) ≡ eqb r 0
    turned zero = refl
    turned (suc r) = sym (ne_eqb (suc r) 0 (λ e. omega arith))

-- ---- as the machine has them: a number that fits is what its bits are read as
module _ {d : ℕ} (p : (1 ≤ d) × (d < 2 ^ 63)) {z : ℤ} (f : SFits w64 z) where
  divisor : to_z w64 d ≡ pos d
  divisor = to_z_pos w64 p.1

  within : {y : ℤ} → mag y ≤ mag z → SFits w64 y
  within k = record { sfits = lt_of_le_of_lt k f.sfits }

  quotient_held : to_z w64 (of_z w64 (quot_z (to_z w64 (of_z w64 z)) (to_z w64 d))) ≡ quot_z z (pos d)
  quotient_held = rw (divisor, to_z-of_z f) (to_z-of_z (within (quotient_mag z d)))

  remainder_small : SFits w64 (rem_z z (pos d))
  remainder_small = within (mag_rem z (pos d))

  remainder_held : to_z w64 (of_z w64 (rem_z (to_z w64 (of_z w64 z)) (to_z w64 d))) ≡ rem_z z (pos d)
  remainder_held = rw (divisor, to_z-of_z f) (to_z-of_z remainder_small)

  -- the remainder is zero where its bits are
  pub remainder_test : eqb (of_z w64 (rem_z z (to_z w64 d))) 0 ≡ divides d z
  unfolding divides
  remainder_test = rw divisor (bits_same w64 (rem_z z (pos d)) (pos 0) remainder_small (within zero-le) ∙ zero_remainder z d)

  abbrev quotient : ℤ
  quotient = to_z w64 (of_z w64 (quot_z (to_z w64 (of_z w64 z)) (to_z w64 d)))

  abbrev remainder : ℤ
  remainder = to_z w64 (of_z w64 (rem_z (to_z w64 (of_z w64 z)) (to_z w64 d)))

  bit_held : (b : Bool) {y : ℤ} → y ≡ pos (bool_byte b) → to_z w64 (of_z w64 y) ≡ pos (bool_byte b)
  bit_held b e = rw e (by b)
    where
      by : (b : Bool) → to_z w64 (of_z w64 (pos (bool_byte b))) ≡ pos (bool_byte b)
      by true = refl
      by false = refl

  pub floor_held : {less : ℤ} → less ≡ pos (bool_byte (lt_z remainder (pos 0)))
      → to_z w64 (of_z w64 (quotient -ℤ to_z w64 (of_z w64 less))) ≡ floor_div z d
  floor_held e = rw (bit_held _ e, quotient_held, remainder_held, floor_is_quotient d p.0 z) (to_z-of_z (within (floor_mag z d)))

  pub ceil_held : {more : ℤ} → more ≡ pos (bool_byte (lt_z (pos 0) remainder))
      → to_z w64 (of_z w64 (quotient +ℤ to_z w64 (of_z w64 more))) ≡ ceil_div z d
  ceil_held e = rw (bit_held _ e, quotient_held, remainder_held, ceil_is_quotient d p.0 z) (to_z-of_z (within (ceil_mag z d)))
