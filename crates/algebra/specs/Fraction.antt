-- Fractions, in the paper's words: "a pair of whole numbers, the upper signed and the lower at least 1. Fractions are added and
-- multiplied as at school, and two are compared by multiplying across." Nothing is reduced.
use Rattle.std.specs.Prelude.{◌≡◌, ℕ, suc, ◌≤◌, ◌*◌, ℤ, pos, ◌+ℤ◌, ◌*ℤ◌, ◌≤ℤ◌}
use Rattle.std.proofs.Math.Nat as NL
use Rattle.algebra.specs.Sum.{accumulate}

pub record Fraction : Type 0 where
  pub upper : ℤ
  pub lower : ℕ
  pub lower_pos : 1 ≤ lower

-- z over n
unfoldable pub over : ℤ → (n : ℕ) → 1 ≤ n → Fraction
over z n h = record { upper = z; lower = n; lower_pos = h }

-- a whole number, over 1
unfoldable pub whole : ℤ → Fraction
whole z = over z 1 (NL.le_refl 1)

infixl 6 ◌⊕◌
unfoldable pub ◌⊕◌ : Fraction → Fraction → Fraction
x ⊕ y = record {
  upper = x.upper *ℤ pos y.lower +ℤ y.upper *ℤ pos x.lower;
  lower = x.lower * y.lower;
  lower_pos = NL.mul-pos x.lower_pos y.lower_pos;
}

infixl 7 ◌⊗◌
unfoldable pub ◌⊗◌ : Fraction → Fraction → Fraction
x ⊗ y = record {
  upper = x.upper *ℤ y.upper;
  lower = x.lower * y.lower;
  lower_pos = NL.mul-pos x.lower_pos y.lower_pos;
}

-- x divided by n + 1
unfoldable pub over_suc : Fraction → ℕ → Fraction
over_suc x n = record { upper = x.upper; lower = x.lower * suc n; lower_pos = NL.mul-pos x.lower_pos (NL.zero-lt-suc n) }

-- equal, by multiplying across
infix 4 ◌≈◌
pub record ◌≈◌ (x y : Fraction) : Type 0 where
  pub across : x.upper *ℤ pos y.lower ≡ y.upper *ℤ pos x.lower

-- at most, by multiplying across
infix 4 ◌≼◌
pub record ◌≼◌ (x y : Fraction) : Type 0 where
  pub across : (x.upper *ℤ pos y.lower) ≤ℤ (y.upper *ℤ pos x.lower)

-- from a whole number to another, ends included
abbrev pub Between : ℤ → ℤ → Fraction → Type 0
Between low high x = (whole low ≼ x) × (x ≼ whole high)

-- g 1 + .. + g n
unfoldable pub one_to : ℕ → (ℕ → Fraction) → Fraction
one_to n g = accumulate (whole (pos 0)) ◌⊕◌ n (λ i. g (suc i))

-- g 0 + .. + g n
unfoldable pub zero_to : ℕ → (ℕ → Fraction) → Fraction
zero_to n g = accumulate (whole (pos 0)) ◌⊕◌ (suc n) g

-- g 0 times g 1 times .. times g (n - 1)
unfoldable pub product : ℕ → (ℕ → Fraction) → Fraction
product n g = accumulate (whole (pos 1)) ◌⊗◌ n g

-- x to the n
abbrev pub power : Fraction → ℕ → Fraction
power x n = product n (λ _. x)
