-- The lines of the two publications, as claims about a sequence of fractions.
use Rattle.std.specs.Prelude.{ℕ, ◌-◌, ◌≤◌, ℤ, pos, ◌+ℤ◌, ◌*ℤ◌}
use Rattle.algebra.specs.Fraction.{Fraction, whole, ◌⊗◌, ◌≈◌}

-- "for every n from 1": left(n) p_n = right(n) p_(n-1)
abbrev pub Follows : (left right : ℕ → ℤ) → (ℕ → Fraction) → Type 0
Follows left right p = (n : ℕ) → 1 ≤ n → whole (left n) ⊗ p n ≈ whole (right n) ⊗ p (n - 1)

-- "Source document 000 has (α_0 + α_1 n) p_n = (β_0 + β_1 (n-1)) p_(n-1)"
abbrev pub PanjerWillmotLine : (α₀ α₁ β₀ β₁ : ℤ) → (ℕ → Fraction) → Type 0
PanjerWillmotLine α₀ α₁ β₀ β₁ = Follows (λ n. α₀ +ℤ α₁ *ℤ pos n) (λ n. β₀ +ℤ β₁ *ℤ pos (n - 1))

-- "source document 001 has (b_0 + b_1 n) p_n = (a_0 + a_1 n) p_(n-1)"
abbrev pub HesselagerLine : (b₀ b₁ a₀ a₁ : ℤ) → (ℕ → Fraction) → Type 0
HesselagerLine b₀ b₁ a₀ a₁ = Follows (λ n. b₀ +ℤ b₁ *ℤ pos n) (λ n. a₀ +ℤ a₁ *ℤ pos n)
