-- The size of an integer as a natural number, by which code shows that its signed numbers fit.
use Rattle.std.specs.Prelude.{◌≡◌, ℕ, ◌+◌, ◌*◌, ◌≤◌, ◌<◌, ◌^◌, ℤ, nat_abs, ◌+ℤ◌, ◌-ℤ◌, ◌*ℤ◌}
use Rattle.std.specs.Int.{Width}
use mir.Val.{SFits, hbits}
use Rattle.algebra.specs.Sum.{sumℕ, sumℤ}

abbrev pub SizeAdd : Type 0
SizeAdd = (a b : ℤ) → nat_abs (a +ℤ b) ≤ nat_abs a + nat_abs b

abbrev pub SizeSub : Type 0
SizeSub = (a b : ℤ) → nat_abs (a -ℤ b) ≤ nat_abs a + nat_abs b

abbrev pub SizeMul : Type 0
SizeMul = (a b : ℤ) → nat_abs (a *ℤ b) ≡ nat_abs a * nat_abs b

-- a sum is no larger than its terms' sizes together
abbrev pub SizeSum : Type 0
SizeSum = (n : ℕ) (f : ℕ → ℤ) (g : ℕ → ℕ) → ((i : ℕ) → i < n → nat_abs (f i) ≤ g i) → nat_abs (sumℤ n f) ≤ sumℕ n g

-- a number fits w bits with a sign where its size is below 2 to the w - 1
abbrev pub SizeFits : Type 0
SizeFits = (w : Width) (z : ℤ) → nat_abs z < 2 ^ hbits w → SFits w z
