-- The count coefficients: the list that they are read from has P_(n-j) at place j, so the paper's two equations hold; as rational numbers
-- they form a sequence of Sundt's class.
use mathlib.Core.Path.{◌≡◌, refl, sym, ◌∙◌, ap}
use Prim.Native.Nat.{ℕ, zero, suc, ◌-◌, ◌≤◌, min}
use native.Mathlib.Nat as NL
use native.Mathlib.Omega.{arith}
use lib.IntN.{pos}
use lib.ListN.{get_or}
use Rattle.algebra.specs.Semiring.{nat}
use Rattle.algebra.specs.Sum.{sum}
use Rattle.algebra.proofs.Semiring.{ring}
use Rattle.algebra.proofs.Sum.{accumulate_cong, sum_cong, sum_scale}
use Rattle.algebra.specs.Fraction.{Fraction, whole, ◌⊕◌, ◌⊗◌, over_suc, one_to}
use Rattle.algebra.proofs.Value.{ℚ, value, value_plus, value_times, value_over_suc, value_one_to}
use Rattle.exact.specs.Frequency.{Frequency, a, b, with_next, count_coefficients, count_coefficient, CountEquations}
use Rattle.exact.proofs.Sundt.{SundtClass}

one_to_cong : (n : ℕ) {g h : ℕ → Fraction} → ((i : ℕ) → 1 ≤ i → i ≤ n → g i ≡ h i) → one_to n g ≡ one_to n h
unfolding one_to
one_to_cong n e = accumulate_cong (whole (pos 0)) ◌⊕◌ n (λ i l. e (suc i) (omega arith) l)

listed : (law : Frequency) (n j : ℕ) (d : Fraction) → j ≤ n → get_or (count_coefficients law n) j d ≡ count_coefficient law (n - j)
unfolding count_coefficients count_coefficient with_next
listed law zero zero d l = refl
listed law zero (suc j) d l = absurd (NL.not-suc-le-zero l)
listed law (suc n) zero d l = ap (count_coefficient law) (sym (NL.sub-zero (suc n)))
listed law (suc n) (suc j) d l = listed law n j d (NL.le_of_suc-le-suc l) ∙ ap (count_coefficient law) (sym (NL.suc-sub-suc n j))

pub count_equations : CountEquations
unfolding count_coefficients count_coefficient with_next
count_equations law = (refl, later)
  where
    later : (n : ℕ) → count_coefficient law (suc n)
        ≡ one_to (min law.order (suc n)) (λ i. (a law i ⊕ over_suc (b law i) n) ⊗ count_coefficient law (suc n - i))
    later n = one_to_cong (min law.order (suc n))
        (λ i l u. ap (λ (c : Fraction). (a law i ⊕ over_suc (b law i) n) ⊗ c) (place i l (omega arith)))
      where
        back : (i : ℕ) → 1 ≤ i → i ≤ suc n → n - (i - 1) ≡ suc n - i
        back i l u = omega arith

        place : (i : ℕ) → 1 ≤ i → i ≤ suc n → get_or (count_coefficients law n) (i - 1) (whole (pos 0)) ≡ count_coefficient law (suc n - i)
        place i l u = listed law n (i - 1) (whole (pos 0)) (omega arith) ∙ ap (count_coefficient law) (back i l u)

open ℚ use {carrier as A, ◌⊹◌, ◌·◌}

infixl 6 ◌⊹◌
infixl 7 ◌·◌
-- the class has every multiple of its sequences
pub count_class : (law : Frequency) (p : A)
    → SundtClass ℚ law.order (λ i. value (a law i)) (λ i. value (b law i)) (λ n. p · value (count_coefficient law n))
count_class law p n =
    ap (λ (v : A). nat ℚ (suc n) · (p · v)) (ap value ((count_equations law).1 n) ∙ value_one_to (min law.order (suc n)) summand)
    ∙ move (nat ℚ (suc n)) p (sum ℚ (min law.order (suc n)) (λ i. value (summand (suc i))))
    ∙ sum_scale ℚ (min law.order (suc n)) (p · nat ℚ (suc n)) (λ i. value (summand (suc i)))
    ∙ sum_cong ℚ (min law.order (suc n)) (λ i l. each i)
  where
    summand : ℕ → Fraction
    summand i = (a law i ⊕ over_suc (b law i) n) ⊗ count_coefficient law (suc n - i)

    move : (m p s : A) → m · (p · s) ≡ p · m · s
    move m p s = simp ring

    spread : (p m u v c : A) → p · m · ((u ⊹ v) · c) ≡ (m · u ⊹ m · v) · (p · c)
    spread p m u v c = simp ring

    earlier : ℕ → A
    earlier i = value (count_coefficient law (suc n - suc i))

    each : (i : ℕ) → p · nat ℚ (suc n) · value (summand (suc i))
        ≡ (nat ℚ (suc n) · value (a law (suc i)) ⊹ value (b law (suc i))) · (p · earlier i)
    each i =
        ap (λ (v : A). p · nat ℚ (suc n) · v) (rw (value_times, value_plus) refl)
        ∙ spread p (nat ℚ (suc n)) (value (a law (suc i))) (value (over_suc (b law (suc i)) n)) (earlier i)
        ∙ ap (λ (v : A). (nat ℚ (suc n) · value (a law (suc i)) ⊹ v) · (p · earlier i)) (value_over_suc (b law (suc i)) n)
