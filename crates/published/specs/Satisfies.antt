-- What is promised of a law that is made, where P_0, P_1, .. are its count coefficients, as the exact calculation has them.
use Rattle.std.specs.Prelude.{◌≡◌, ℕ, ◌≤◌, ℤ, pos, get_or}
use Rattle.algebra.specs.Fraction.{Fraction, ◌⊗◌, zero_to, ◌≈◌}
use Rattle.model.specs.Answer.{accepted}
use Rattle.exact.specs.Frequency.{count_coefficient}
use Rattle.exact.specs.Severity.{Severity, density, convolution}
use Rattle.exact.specs.Amount.{exact_amount}
use Rattle.exact.specs.JobAmount.{frequency}
use Rattle.published.specs.Call.{Made, law_of_term, law_of_panjer_willmot, law_of_hesselager}
use Rattle.published.specs.Line.{PanjerWillmotLine, HesselagerLine}

-- P_n of the law made
abbrev pub count_coefficient_of : (made : Made) → 1 ≤ made.law.divisor → ℕ → Fraction
count_coefficient_of made h n = count_coefficient (frequency made.law h) n

-- ---- claims about a call and the line that it was given
-- "the law made satisfies the customer's own line for every n from 1", whatever the chance of no claims, p, is
abbrev pub Satisfies : Made → ((ℕ → Fraction) → Type 0) → Type 0
Satisfies made Line = made.answer ≡ accepted → (h : 1 ≤ made.law.divisor)
    → Line (count_coefficient_of made h) × ((p : Fraction) → Line (λ n. p ⊗ count_coefficient_of made h n))

-- the other way: a sequence with the customer's line is its first member times P_n
abbrev pub Determines : Made → ((ℕ → Fraction) → Type 0) → Type 0
Determines made Line = made.answer ≡ accepted → (h : 1 ≤ made.law.divisor)
    → (p : ℕ → Fraction) → Line p → (n : ℕ) → p n ≈ p 0 ⊗ count_coefficient_of made h n

-- the amount at x where p_n is that of n claims: the sum over n from 0 to x of p_n times the n-fold convolution at x
abbrev pub own_amount : (p : ℕ → Fraction) → Severity → ℕ → Fraction
own_amount p table x = zero_to x (λ n. p n ⊗ convolution (density table) n x)

-- so the amounts of a sequence with the customer's line are the law's exact amounts, with its first member for the starting chance
abbrev pub SameAmounts : Made → ((ℕ → Fraction) → Type 0) → Type 0
SameAmounts made Line = made.answer ≡ accepted → (h : 1 ≤ made.law.divisor)
    → (p : ℕ → Fraction) → Line p → (table : Severity) (x : ℕ)
    → own_amount p table x ≈ exact_amount (frequency made.law h) table (p 0) x

-- ---- the statements
-- a claim about both calls
abbrev pub OfBoth : (Made → ((ℕ → Fraction) → Type 0) → Type 0) → Type 0
OfBoth Claim = ((α₀ α₁ β₀ β₁ : ℤ) → Claim (law_of_panjer_willmot α₀ α₁ β₀ β₁) (PanjerWillmotLine α₀ α₁ β₀ β₁))
    × ((b₀ b₁ a₀ a₁ : ℤ) → Claim (law_of_hesselager b₀ b₁ a₀ a₁) (HesselagerLine b₀ b₁ a₀ a₁))

-- the law has a divisor that is not 0
abbrev pub DivisorPositive : Type 0
DivisorPositive = OfBoth (λ made _. made.answer ≡ accepted → 1 ≤ made.law.divisor)

-- the law is of order 1, and D, A_1 and B_1 are all of it
abbrev pub OrderOne : Type 0
OrderOne = OfBoth (λ made _. made.answer ≡ accepted
    → made.law ≡ law_of_term 1 made.law.divisor (get_or made.law.a 0 (pos 0)) (get_or made.law.b 0 (pos 0)))

abbrev pub SatisfiesPanjerWillmot : Type 0
SatisfiesPanjerWillmot = (α₀ α₁ β₀ β₁ : ℤ) → Satisfies (law_of_panjer_willmot α₀ α₁ β₀ β₁) (PanjerWillmotLine α₀ α₁ β₀ β₁)

abbrev pub SatisfiesHesselager : Type 0
SatisfiesHesselager = (b₀ b₁ a₀ a₁ : ℤ) → Satisfies (law_of_hesselager b₀ b₁ a₀ a₁) (HesselagerLine b₀ b₁ a₀ a₁)

abbrev pub OnlyLaw : Type 0
OnlyLaw = OfBoth Determines

abbrev pub OwnAmounts : Type 0
OwnAmounts = OfBoth SameAmounts
