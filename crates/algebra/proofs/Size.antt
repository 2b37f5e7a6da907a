-- Sizes of sums and products, by cases on the signs.
use mathlib.Core.Path.{◌≡◌, refl, ◌∙◌}
use Prim.Native.Nat.{ℕ, zero, suc, ◌+◌, ◌*◌, ◌≤◌, ◌<◌, ◌^◌}
use native.Mathlib.Nat as NL
use native.Mathlib.Omega.{arith}
use lib.IntN.{ℤ, pos, negsuc, neg_ℤ, nat_abs, sub_ℕ, ◌+ℤ◌, ◌-ℤ◌, ◌*ℤ◌, +ℤ_idl}
use lib.Signed.{mag}
use mir.Syntax.{Width}
use mir.Val.{SFits, to_z, of_z, hbits}
use mir.Facts.{to_z-of_z}
use Rattle.algebra.specs.Size.{SizeAdd, SizeSub, SizeMul, SizeSum, SizeFits}
use Rattle.algebra.proofs.Sum.{sum_related}
use Rattle.algebra.proofs.Integer.{subℕ_cases}

size_subℕ : (a b : ℕ) → nat_abs (sub_ℕ a b) ≤ a + b
size_subℕ a b = subℕ_cases (λ z. nat_abs z ≤ a + b) a b (λ h. omega arith) (λ h. omega arith)

pub size_add : SizeAdd
size_add (pos a) (pos b) = NL.le_refl (a + b)
size_add (pos a) (negsuc b) = size_subℕ a (suc b)
size_add (negsuc a) (pos b) = omega (arith, size_subℕ b (suc a))
size_add (negsuc a) (negsuc b) = omega arith

pub size_neg : (z : ℤ) → nat_abs (neg_ℤ z) ≡ nat_abs z
size_neg (pos zero) = refl
size_neg (pos (suc n)) = refl
size_neg (negsuc n) = refl

pub size_sub : SizeSub
size_sub a b = omega (arith, size_add a (neg_ℤ b), size_neg b)

pub size_mul : SizeMul
size_mul (pos a) (pos b) = refl
size_mul (pos a) (negsuc b) = size_neg (pos (a * suc b))
size_mul (negsuc a) (pos b) = size_neg (pos (suc a * b))
size_mul (negsuc a) (negsuc b) = refl

-- a product whose factors are at most m and n in size
pub size_mul_le : (a b : ℤ) (m n : ℕ) → nat_abs a ≤ m → nat_abs b ≤ n → nat_abs (a *ℤ b) ≤ m * n
size_mul_le a b m n h k = rw (size_mul a b) (NL.mul-le-mul h k)

pub size_sum : SizeSum
size_sum n f g h = sum_related (λ z m. nat_abs z ≤ m) (pos 0) ◌+ℤ◌ 0 ◌+◌ (NL.le_refl 0)
    (λ a c b d p q. omega (arith, size_add a c)) n f g h

mag_size : (z : ℤ) → mag z ≤ nat_abs z
mag_size (pos n) = NL.le_refl n
mag_size (negsuc n) = omega arith

pub size_fits : SizeFits
size_fits w z h = record { sfits = NL.lt_of_le_of_lt (mag_size z) h }

-- what a signed local holds, where the number that was put there fits and is v
pub held : (w : Width) {z v : ℤ} → mag z < 2 ^ hbits w → z ≡ v → to_z w (of_z w z) ≡ v
held w h e = to_z-of_z (record { sfits = h }) ∙ e

-- the negative of a small number, and of what a local holds of it
module _ (w : Width) (z : ℤ) (h : nat_abs z < 2 ^ hbits w) where
  pub negative_fits : SFits w (pos 0 -ℤ z)
  negative_fits = size_fits w (pos 0 -ℤ z) (omega (arith, size_sub (pos 0) z))

  pub negative_local_fits : SFits w (pos 0 -ℤ to_z w (of_z w z))
  negative_local_fits = rw (to_z-of_z (size_fits w z h)) negative_fits

  pub negative_held : to_z w (of_z w (pos 0 -ℤ to_z w (of_z w z))) ≡ neg_ℤ z
  negative_held = rw (to_z-of_z (size_fits w z h), to_z-of_z negative_fits) (+ℤ_idl (neg_ℤ z))
