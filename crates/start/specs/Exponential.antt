-- Partial sums of the exponential series, as exact fractions.
use Rattle.std.specs.Prelude.{ℕ, zero, suc, ◌*◌, ◌≤◌, pos}
use Rattle.std.proofs.Math.Nat as NL
use Rattle.algebra.specs.Fraction.{Fraction, over, ◌⊗◌, zero_to, power}

unfoldable pub factorial : ℕ → ℕ
factorial zero = 1
factorial (suc n) = factorial n * suc n

pub factorial_pos : (n : ℕ) → 1 ≤ factorial n
unfolding factorial
factorial_pos zero = NL.le_refl 1
factorial_pos (suc n) = NL.mul-pos (factorial_pos n) (NL.zero-lt-suc n)

-- x to the j, over j factorial
unfoldable pub exponential_term : Fraction → ℕ → Fraction
exponential_term x j = power x j ⊗ over (pos 1) (factorial j) (factorial_pos j)

-- "a partial sum of the exponential series" for x, "taken to term" n
unfoldable pub exponential : Fraction → ℕ → Fraction
exponential x n = zero_to n (exponential_term x)
