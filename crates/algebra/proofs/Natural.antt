-- ℕ of the kit as a commutative semiring, and bounds on its sums.
use mathlib.Core.Path.{◌≡◌, ap}
use mathlib.Core.Logic.{◌⊎◌, inl, inr}
use Prim.Native.Nat.{ℕ, zero, suc, ◌+◌, ◌*◌, ◌≤◌, ◌<◌}
use native.Mathlib.Nat as NL
use native.Mathlib.Omega.{arith}
use Rattle.algebra.specs.Semiring.{Semiring}
use Rattle.algebra.specs.Sum.{accumulate, sumℕ}
use Rattle.algebra.proofs.Sum.{sum_related}

abbrev pub naturals : Semiring
naturals = record {
  carrier = ℕ;
  𝟘 = 0;
  𝟙 = 1;
  ◌⊹◌ = ◌+◌;
  ◌·◌ = ◌*◌;
  add_comm = NL.add_comm;
  add_assoc = NL.add_assoc;
  add_zero = NL.add-zero;
  mul_comm = NL.mul_comm;
  mul_assoc = NL.mul_assoc;
  mul_one = NL.mul-one;
  mul_zero = NL.mul-zero;
  mul_add = NL.mul-add;
}

pub sumℕ_mono : (n : ℕ) (f g : ℕ → ℕ) → ((i : ℕ) → i < n → f i ≤ g i) → sumℕ n f ≤ sumℕ n g
sumℕ_mono n f g h = sum_related ◌≤◌ 0 ◌+◌ 0 ◌+◌ (NL.le_refl 0) (λ a c b d p q. omega arith) n f g h

-- n terms of at most m each
pub sumℕ_most : (n m : ℕ) (f : ℕ → ℕ) → ((i : ℕ) → i < n → f i ≤ m) → sumℕ n f ≤ n * m
unfolding accumulate
sumℕ_most zero m f h = omega arith
sumℕ_most (suc n) m f h = omega (arith, sumℕ_most n m f (λ i l. h i (omega arith)), h n (omega arith))

-- the first n terms of m
pub sumℕ_longer : (n m : ℕ) (f : ℕ → ℕ) → n ≤ m → sumℕ n f ≤ sumℕ m f
unfolding accumulate
sumℕ_longer zero m f h = omega arith
sumℕ_longer (suc n) zero f h = absurd (NL.not-suc-le-zero h)
sumℕ_longer (suc n) (suc m) f h = by (sumℕ_longer (suc n) m f) (NL.eq-or-lt_of_le h)
  where
    by : (suc n ≤ m → sumℕ (suc n) f ≤ sumℕ m f) → (suc n ≡ suc m) ⊎ (suc n < suc m) → sumℕ (suc n) f ≤ sumℕ (suc m) f
    by fewer (inl e) = NL.le_of_eq (ap (λ (k : ℕ). sumℕ k f) e)
    by fewer (inr l) = omega (arith, fewer (omega arith))
