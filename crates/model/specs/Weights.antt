-- The weights of a table of claim sizes, and the divisors that they give.
use Rattle.std.specs.Prelude.{List, [], ◌∷◌, ℕ, ◌+◌, ◌*◌, ℤ, pos, ◌-ℤ◌, ◌*ℤ◌}
use Rattle.algebra.specs.Parts.{up}

-- the sum of weights; V where they are w(1) to w(m), those of the claims that are not zero
abbrev pub total_weight : List ℕ → ℕ
total_weight [] = 0
total_weight (w ∷ ws) = w + total_weight ws

-- W: "a weight for severity 0, counted in W"
abbrev pub all_weight : ℕ → List ℕ → ℕ
all_weight w₀ weights = w₀ + total_weight weights

-- "D times W - A times w(0)", with A the law's first; 0 where that is "zero or less", which 12 refuses
abbrev pub thinned_divisor : (D : ℕ) (A : ℤ) (w₀ W : ℕ) → ℕ
thinned_divisor D A w₀ W = up (pos (D * W) -ℤ A *ℤ pos w₀)

-- "The divisor in row 0 becomes (D times W - A times w(0)) times x", at total x
unfoldable pub divisor_zero : (D : ℕ) (A : ℤ) (w₀ W x : ℕ) → ℕ
divisor_zero D A w₀ W x = thinned_divisor D A w₀ W * x
