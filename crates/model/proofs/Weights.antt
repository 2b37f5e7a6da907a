-- D W - A w(0): its size, where each of its numbers is at most 1,000 in size, by those of the two products; without zeros it is D W.
use mathlib.Core.Path.{◌≡◌, ap, ◌∙◌}
use Prim.Native.Nat.{ℕ, ◌*◌, ◌≤◌}
use native.Mathlib.Nat as NL
use native.Mathlib.Omega.{arith}
use lib.IntN.{ℤ, pos, nat_abs, ◌-ℤ◌, ◌*ℤ◌, *ℤ-zero}
use Rattle.algebra.specs.Parts.{up}
use Rattle.algebra.proofs.Integer.{split_size}
use Rattle.algebra.proofs.Size.{size_sub, size_mul_le}
use Rattle.model.specs.Weights.{thinned_divisor}

module _ (D : ℕ) (A : ℤ) (w₀ W : ℕ) (d : D ≤ 1000) (a : nat_abs A ≤ 1000) (h₀ : w₀ ≤ 1000) (h : W ≤ 1000) where
  pub thinned_size : nat_abs (pos (D * W) -ℤ A *ℤ pos w₀) ≤ 2000000
  thinned_size =
      omega (arith, size_sub (pos (D * W)) (A *ℤ pos w₀), NL.mul-le-mul d h, size_mul_le A (pos w₀) 1000 1000 a h₀)

  pub thinned_most : thinned_divisor D A w₀ W ≤ 2000000
  thinned_most = omega (arith, thinned_size, split_size (pos (D * W) -ℤ A *ℤ pos w₀))

pub thinned_none : (D : ℕ) (A : ℤ) (W : ℕ) → thinned_divisor D A 0 W ≡ D * W
thinned_none D A W = ap (λ (z : ℤ). up (pos (D * W) -ℤ z)) (*ℤ-zero A) ∙ NL.add-zero (D * W)
