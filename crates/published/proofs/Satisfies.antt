-- What holds of the line of order 1 holds of the publication's own, as each form's sides are those of such a line (`Sides`).
use mathlib.Core.Path.{◌≡◌, refl, sym, ◌∙◌, ap, subst}
use Prim.Native.Nat.{ℕ, suc, ◌≤◌}
use lib.IntN.{ℤ, pos, nat_abs}
use lib.ListN.{get_or}
use Rattle.algebra.specs.Fraction.{Fraction, ◌⊗◌, zero_to, ◌≈◌}
use Rattle.algebra.proofs.Semiring.{one_mul}
use Rattle.algebra.proofs.Sum.{sum_cong, sum_scale}
use Rattle.algebra.proofs.Value.{ℚ, value, eq_of_value, value_one, value_times, value_zero_to}
use Rattle.model.specs.declared.Law.{Law}
use Rattle.model.specs.Answer.{accepted}
use Rattle.exact.specs.Frequency.{count_coefficient}
use Rattle.exact.specs.Severity.{Severity, density, convolution}
use Rattle.exact.specs.Amount.{exact_amount}
use Rattle.exact.specs.JobAmount.{frequency}
use Rattle.exact.proofs.Frequency.{count_equations}
use Rattle.published.specs.Call.{law_of_term, turn, law_of_line}
use Rattle.published.specs.Line.{Follows}
use Rattle.published.specs.Satisfies.{count_coefficient_of, own_amount, DivisorPositive, OrderOne}
use Rattle.published.specs.Satisfies.{SatisfiesPanjerWillmot, SatisfiesHesselager, OnlyLaw, OwnAmounts}
use Rattle.published.proofs.Accepted.{LineAccepted, line_accepted}
use Rattle.published.proofs.Steps.{Steps, steps_cong, law_steps, steps_unique}
use Rattle.published.proofs.Turn.{Sides, to_steps, from_steps}
use Rattle.published.proofs.Sides.{hesselager_sides, panjer_willmot_sides}
open ℚ use {carrier as Q, 𝟙, ◌·◌}

infixl 7 ◌·◌
-- a law with these numbers, however it is written
of_law : (D : ℕ) (A B : ℤ) (law : Law) → law ≡ law_of_term 1 D A B → (h : 1 ≤ law.divisor) (p : Q)
    → Steps D A B (λ n. p · value (count_coefficient (frequency law h) n))
of_law D A B law e = subst
    (λ (l : Law). (h : 1 ≤ l.divisor) (p : Q) → Steps D A B (λ n. p · value (count_coefficient (frequency l h) n)))
    (sym e) (λ h p. law_steps D A B h p)

-- order 1, and nothing but D, A_1 and B_1
abbrev OneTerm : Law → Type 0
OneTerm law = law ≡ law_of_term 1 law.divisor (get_or law.a 0 (pos 0)) (get_or law.b 0 (pos 0))

positive : (constant D A B : ℤ) → (law_of_line constant D A B).answer ≡ accepted → 1 ≤ (law_of_line constant D A B).law.divisor
positive constant D A B e = let ok = line_accepted constant D A B e in rw ok.law_made ok.divisor_pos

all_of_it : (constant D A B : ℤ) → (law_of_line constant D A B).answer ≡ accepted → OneTerm (law_of_line constant D A B).law
all_of_it constant D A B e = subst OneTerm (sym (line_accepted constant D A B e).law_made) refl

-- ---- every form of the line
module _ (constant D A B : ℤ) (left right : ℕ → ℤ) (sides : constant ≡ pos 0 → Sides D A B left right)
    (e : (law_of_line constant D A B).answer ≡ accepted) where
  ok : LineAccepted constant D A B
  ok = line_accepted constant D A B e

  s : Sides D A B left right
  s = sides ok.no_constant

  module _ (h : 1 ≤ (law_of_line constant D A B).law.divisor) where
    abbrev P : ℕ → Fraction
    P = count_coefficient_of (law_of_line constant D A B) h

    multiple_steps : (p : Q) → Steps (nat_abs (turn D D)) (turn D A) (turn D B) (λ n. p · value (P n))
    multiple_steps = of_law (nat_abs (turn D D)) (turn D A) (turn D B) (law_of_line constant D A B).law ok.law_made h

    P-steps : Steps (nat_abs (turn D D)) (turn D A) (turn D B) (λ n. value (P n))
    P-steps = steps_cong (nat_abs (turn D D)) (turn D A) (turn D B) (λ n. one_mul ℚ (value (P n))) (multiple_steps 𝟙)

    pub satisfied : Follows left right P × ((p : Fraction) → Follows left right (λ n. p ⊗ P n))
    satisfied = (
      from_steps D A B left right s P P-steps,
      (λ p. from_steps D A B left right s (λ n. p ⊗ P n) (steps_cong (nat_abs (turn D D)) (turn D A) (turn D B)
          (λ n. sym (value_times p (P n))) (multiple_steps (value p)))),
    )

    module _ (p : ℕ → Fraction) (f : Follows left right p) where
      value_determined : (n : ℕ) → value (p n) ≡ value (p 0) · value (P n)
      value_determined = steps_unique (nat_abs (turn D D)) (turn D A) (turn D B) ok.divisor_pos (λ n. value (p n)) (λ n. value (P n))
          (to_steps D A B left right s p f) P-steps
          (ap value (count_equations (frequency (law_of_line constant D A B).law h)).0 ∙ value_one)

      pub determined : (n : ℕ) → p n ≈ p 0 ⊗ P n
      determined n = eq_of_value (value_determined n ∙ sym (value_times (p 0) (P n)))

      pub same_amounts : (table : Severity) (x : ℕ) → own_amount p table x
          ≈ exact_amount (frequency (law_of_line constant D A B).law h) table (p 0) x
      unfolding exact_amount
      same_amounts table x = eq_of_value (value_zero_to x (λ n. p n ⊗ at n) ∙ sum_cong ℚ (suc x) (λ n l. each n)
          ∙ sym (value_times (p 0) (zero_to x (λ n. P n ⊗ at n)) ∙ ap (λ (v : Q). value (p 0) · v) (value_zero_to x (λ n. P n ⊗ at n))
          ∙ sum_scale ℚ (suc x) (value (p 0)) (λ n. value (P n ⊗ at n))))
        where
          at : ℕ → Fraction
          at n = convolution (density table) n x

          each : (n : ℕ) → value (p n ⊗ at n) ≡ value (p 0) · value (P n ⊗ at n)
          each n = value_times (p n) (at n) ∙ ap (λ (v : Q). v · value (at n)) (value_determined n)
              ∙ ℚ.mul_assoc (value (p 0)) (value (P n)) (value (at n)) ∙ ap (λ (v : Q). value (p 0) · v) (sym (value_times (P n) (at n)))

-- ---- the two forms
pub divisor_positive : DivisorPositive
divisor_positive = ((λ α₀ α₁ β₀ β₁. positive α₀ α₁ β₁ _), (λ b₀ b₁ a₀ a₁. positive b₀ b₁ a₁ a₀))

pub order_one : OrderOne
order_one = ((λ α₀ α₁ β₀ β₁. all_of_it α₀ α₁ β₁ _), (λ b₀ b₁ a₀ a₁. all_of_it b₀ b₁ a₁ a₀))

pub satisfies_panjer_willmot : SatisfiesPanjerWillmot
satisfies_panjer_willmot α₀ α₁ β₀ β₁ = satisfied α₀ α₁ β₁ _ _ _ (panjer_willmot_sides α₀ α₁ β₀ β₁)

pub satisfies_hesselager : SatisfiesHesselager
satisfies_hesselager b₀ b₁ a₀ a₁ = satisfied b₀ b₁ a₁ a₀ _ _ (hesselager_sides b₀ b₁ a₀ a₁)

pub only_law : OnlyLaw
only_law = (
  (λ α₀ α₁ β₀ β₁. determined α₀ α₁ β₁ _ _ _ (panjer_willmot_sides α₀ α₁ β₀ β₁)),
  (λ b₀ b₁ a₀ a₁. determined b₀ b₁ a₁ a₀ _ _ (hesselager_sides b₀ b₁ a₀ a₁)),
)

pub own_amounts : OwnAmounts
own_amounts = (
  (λ α₀ α₁ β₀ β₁. same_amounts α₀ α₁ β₁ _ _ _ (panjer_willmot_sides α₀ α₁ β₀ β₁)),
  (λ b₀ b₁ a₀ a₁. same_amounts b₀ b₁ a₁ a₀ _ _ (hesselager_sides b₀ b₁ a₀ a₁)),
)
