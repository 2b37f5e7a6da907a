-- Why the law of the claims that are not zero gives the amounts, and why its start is the chance that the total is zero: Theorem 9 of Sundt
-- (1992), document 002, for laws of order 1. Where a claim can be of size 0, every number of claims can bring every total, and an amount is
-- a sum without end over the number of claims. Its partial sums, over at most n claims, are fractions; the theorem is stated of these.
use Rattle.std.specs.Prelude.{◌≡◌, ℕ, zero, suc, ◌-◌, ◌*◌, ◌≤◌, ◌<◌, pos, nat_abs}
use Rattle.std.proofs.Math.Nat as NL
use Rattle.algebra.specs.Fraction.{Fraction, over, whole, ◌⊕◌, ◌⊗◌, zero_to, power, ◌≈◌, ◌≼◌}
use Rattle.model.specs.Weights.{all_weight}
use Rattle.exact.specs.Frequency.{Frequency, a, b, count_coefficient}
use Rattle.exact.specs.Severity.{Severity, weight, convolution}
use Rattle.exact.specs.Amount.{exact_amount}
use Rattle.exact.specs.Thinned.{all_pos, zero_share, law_divisor, thinned_law}

-- ---- the amounts
abbrev pub weight_with_zero : ℕ → Severity → ℕ → ℕ
weight_with_zero w₀ table zero = w₀
weight_with_zero w₀ table (suc y) = weight table (suc y)

-- f(y) = w(y)/W, for y from 0; f(0) is q
unfoldable pub density_with_zero : ℕ → Severity → ℕ → Fraction
density_with_zero w₀ table y = over (pos (weight_with_zero w₀ table y)) (all_weight w₀ table.weights) (all_pos w₀ table)

-- the n-fold convolution of f at x, with severities from 0
unfoldable pub convolution_with_zero : (ℕ → Fraction) → ℕ → ℕ → Fraction
convolution_with_zero f zero x = convolution f zero x
convolution_with_zero f (suc n) x = zero_to x (λ y. f y ⊗ convolution_with_zero f n (x - y))

module _ (law : Frequency) (w₀ : ℕ) (table : Severity) (p : Fraction) where
  -- for a chance p of no claims, the chance of n claims with the total x
  unfoldable pub of_claims : ℕ → ℕ → Fraction
  of_claims n x = p ⊗ (count_coefficient law n ⊗ convolution_with_zero (density_with_zero w₀ table) n x)

  -- of 0 to n claims with the total x: the amount g(x) of document 002, cut after n claims
  unfoldable pub up_to_claims : ℕ → ℕ → Fraction
  up_to_claims n x = zero_to n (λ m. of_claims m x)

-- ---- Theorem 9, cut after n claims
-- "g(0) = Σ p_n q^n", (21) of document 002: the chance that the total is zero
abbrev pub ZeroTotalChance : Type 0
ZeroTotalChance = (law : Frequency) (w₀ : ℕ) (table : Severity) (p : Fraction) (n : ℕ)
    → up_to_claims law w₀ table p n 0 ≈ zero_to n (λ m. p ⊗ (count_coefficient law m ⊗ power (zero_share w₀ table) m))

-- (20) of document 002, times x: a term (a + b y / x) f(y) g(x - y) for each severity y from 0, that of severity 0 being a q g(x), with g
-- of at most n claims on the right and of at most n + 1 on the left
abbrev pub CutRecursion : Type 0
CutRecursion = (law : Frequency) → law.order ≡ 1 → (w₀ : ℕ) (table : Severity) (p : Fraction) (n x : ℕ)
    → whole (pos x) ⊗ up_to_claims law w₀ table p (suc n) x
    ≈ zero_to x (λ y. (whole (pos x) ⊗ a law 1 ⊕ whole (pos y) ⊗ b law 1) ⊗ density_with_zero w₀ table y
    ⊗ up_to_claims law w₀ table p n (x - y))

-- ---- "a start is now the chance that the total is zero": from it the thinned law gives the amounts
abbrev pub thinned_amount : (law : Frequency) (w₀ : ℕ) (table : Severity) → 1 ≤ law_divisor law w₀ table → Fraction → ℕ → Fraction
thinned_amount law w₀ table h p x = exact_amount (thinned_law law w₀ table h) table p x

-- a law with at most n claims, as a binomial one: the sums end, and are equal to the thinned amounts
abbrev pub FiniteIsThinned : Type 0
FiniteIsThinned = (law : Frequency) → law.order ≡ 1
    → (w₀ : ℕ) (table : Severity) (h : 1 ≤ law_divisor law w₀ table) (p : Fraction) (n : ℕ) → count_coefficient law (suc n) ≈ whole (pos 0)
    → (x : ℕ) → up_to_claims law w₀ table p n x ≈ thinned_amount law w₀ table h (up_to_claims law w₀ table p n 0) x

-- x and y are at most e apart
abbrev pub Apart : Fraction → Fraction → Fraction → Type 0
Apart e x y = (x ≼ y ⊕ e) × (y ≼ x ⊕ e)

-- the partial sums and the thinned amounts come together: they differ by at most a constant over n + 1
abbrev pub ComeTogether : (law : Frequency) (w₀ : ℕ) (table : Severity) → 1 ≤ law_divisor law w₀ table → Fraction → ℕ → Type 0
ComeTogether law w₀ table h p x = (K : ℕ) × ((n : ℕ) → Apart (over (pos K) (suc n) (NL.zero-lt-suc n))
    (up_to_claims law w₀ table p n x) (thinned_amount law w₀ table h (up_to_claims law w₀ table p n 0) x))

-- where aq lies between -1 and 1
abbrev pub LimitIsThinned : Type 0
LimitIsThinned = (law : Frequency) → law.order ≡ 1 → (w₀ : ℕ) (table : Severity) (h : 1 ≤ law_divisor law w₀ table)
    → nat_abs (law.term_a 1) * w₀ < law.divisor * all_weight w₀ table.weights → (p : Fraction) (x : ℕ) → ComeTogether law w₀ table h p x

-- and where no count coefficient is below zero, as is so of every distribution
abbrev pub DistributionIsThinned : Type 0
DistributionIsThinned = (law : Frequency) → law.order ≡ 1 → (w₀ : ℕ) (table : Severity) (h : 1 ≤ law_divisor law w₀ table)
    → ((n : ℕ) → whole (pos 0) ≼ count_coefficient law n) → (p : Fraction) (x : ℕ) → ComeTogether law w₀ table h p x
