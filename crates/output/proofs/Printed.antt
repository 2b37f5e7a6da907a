-- The library's text of a number is the decimal text that the paper's numbers have.
use mathlib.Core.Path.{◌≡◌, sym, ap, ◌∙◌}
use mathlib.Core.List.{List, ◌∷◌, ◌++◌}
use Prim.Native.Nat.{ℕ, zero, suc, ◌/◌, ◌%◌, ◌≤◌, ◌<◌, ◌^◌}
use native.Mathlib.Omega.{arith}
use lib.IntN.{ℤ, pos, negsuc}
use lib.Signed.{mag}
use Rattle.std.specs.Fmt as Fmt
use Rattle.std.proofs.lemmas.Fmt.{decimal_by_steps}
use Rattle.text.specs.Numbers.{minus, digit, digits_within, digits, decimal}
use Rattle.text.proofs.Decimal.{digits_small, digits_last, tenth_within}

-- however many steps are taken, if they are enough
within : (n : ℕ) → n < 2 ^ 64 → (steps : ℕ) → n < 10 ^ suc steps → digits_within steps n ≡ Fmt.decimal n
within = decimal_by_steps (λ n w. (steps : ℕ) → n < 10 ^ suc steps → digits_within steps n ≡ w)
    (λ n h steps k. digits_small steps n h) more
  where
    more : (n : ℕ) (w : List ℕ) → 10 ≤ n → ((steps : ℕ) → n / 10 < 10 ^ suc steps → digits_within steps (n / 10) ≡ w)
        → (steps : ℕ) → n < 10 ^ suc steps → digits_within steps n ≡ w ++ digit (n % 10)
    more n w h tenth zero k = absurd (omega arith)
    more n w h tenth (suc steps) k =
        digits_last steps n h ∙ ap (λ l. l ++ digit (n % 10)) (tenth steps (tenth_within (suc steps) n h k).1)

pub digits_printed : (n : ℕ) → n < 2 ^ 64 → Fmt.decimal n ≡ digits n
digits_printed n h = sym (within n h 19 (omega arith))

pub decimal_printed : (z : ℤ) → mag z < 2 ^ 63 → Fmt.signed_decimal z ≡ decimal z
unfolding decimal
decimal_printed (pos n) h = digits_printed n (omega arith)
decimal_printed (negsuc n) h = ap (λ w. minus ∷ w) (digits_printed (suc n) (omega arith))
