-- A difference that fits is itself. One that does not lies outside the limits, and so does the number that stands for it; and all terms
-- outside the limits are refused alike.
use borrow.Author.Tests.{lt-ltb, ltb-true, ltb-false}
use mathlib.Core.Path.{◌≡◌, refl, sym, ◌∙◌, ap}
use mathlib.Core.Bool.{Bool, true, false, true≢false, ◌||◌, cond}
use mathlib.Core.List.{[]}
use native.Mathlib.Omega.{arith}
use Prim.Native.Nat.{suc}
use lib.IntN.{ℤ, pos, negsuc, nat_abs, ◌-ℤ◌}
use mir.Syntax.{w64}
use mir.Val.{SFits}
use mir.Facts.{to_z-of_z}
use Rattle.std.specs.Int.{saturate_signed}
use Rattle.algebra.proofs.Or.{or_second}
use Rattle.model.specs.Answer.{Answer, is_accepted, first_refusal}
use Rattle.model.proofs.Answer.{by_first}
use Rattle.model.specs.Limits.{outside, beyond}
use Rattle.published.specs.Call.{answered, turn, turned_law, wrong_law, checks, no_law, law_of_line}
use Rattle.published.proofs.Accepted.{turn_size}
use Rattle.published.proofs.panjer_willmot.Goals as goal

-- ---- a refusal that the terms do not change
wrong_terms : (D A B : ℤ) → (beyond 1000 A || beyond 1000 B) ≡ true → wrong_law D A B ≡ true
wrong_terms D A B e = or_second (outside 1 1000 (nat_abs (turn D D))) _ (rw (turn_size D A, turn_size D B) e)

not_accepted : (constant D A B : ℤ) → wrong_law D A B ≡ true → is_accepted (first_refusal (checks constant D A B)) ≡ false
not_accepted constant D A B e =
    by_first Refused _ 51 0 _ (λ _. refl)
    (λ _. by_first Refused _ 52 0 _ (λ _. refl)
    (λ _. by_first Refused _ 53 0 [] (λ _. refl) (λ f. absurd (true≢false (sym e ∙ f)))))
  where
    Refused : Answer → Type 0
    Refused answer = is_accepted answer ≡ false

same_refusal : (constant D A B C : ℤ) → (beyond 1000 A || beyond 1000 B) ≡ true → (beyond 1000 A || beyond 1000 C) ≡ true
    → law_of_line constant D A B ≡ law_of_line constant D A C
unfolding law_of_line
same_refusal constant D A B C h k =
    none B (wrong_terms D A B h) ∙ ap (λ (answer : Answer). answered answer no_law) same ∙ sym (none C (wrong_terms D A C k))
  where
    none : (b : ℤ) → wrong_law D A b ≡ true → law_of_line constant D A b ≡ answered (first_refusal (checks constant D A b)) no_law
    none b e = ap (λ (t : Bool). answered (first_refusal (checks constant D A b)) (cond t (turned_law D A b) no_law))
        (not_accepted constant D A b e)

    same : first_refusal (checks constant D A B) ≡ first_refusal (checks constant D A C)
    same = rw (wrong_terms D A B h, wrong_terms D A C k) refl

-- ---- the number that stands for z
stays : (z : ℤ) → beyond 1000 z ≡ false → saturate_signed w64 z ≡ z
stays (pos n) e = ap pos (omega (arith, ltb-false 1000 n e))
stays (negsuc n) e = ap negsuc (omega (arith, ltb-false 1000 (suc n) e))

stays_outside : (z : ℤ) → beyond 1000 z ≡ true → beyond 1000 (saturate_signed w64 z) ≡ true
stays_outside (pos n) e = lt-ltb 1000 _ (omega (arith, ltb-true 1000 n e))
stays_outside (negsuc n) e = lt-ltb 1000 _ (omega (arith, ltb-true 1000 (suc n) e))

same_law : (constant D A z : ℤ) → law_of_line constant D A (saturate_signed w64 z) ≡ law_of_line constant D A z
same_law constant D A z = by (beyond 1000 z) refl
  where
    second : (t : ℤ) → beyond 1000 t ≡ true → (beyond 1000 A || beyond 1000 t) ≡ true
    second t e = or_second (beyond 1000 A) (beyond 1000 t) e

    by : (t : Bool) → beyond 1000 z ≡ t → law_of_line constant D A (saturate_signed w64 z) ≡ law_of_line constant D A z
    by true e = same_refusal constant D A (saturate_signed w64 z) z (second (saturate_signed w64 z) (stays_outside z e)) (second z e)
    by false e = ap (law_of_line constant D A) (stays z e)

pub returns : goal.returns
returns c =
    let a = c.args in
    let f = c.ranges in
    let g : SFits w64 c.saturating_sub.result = record { sfits = c.saturating_sub.type_inv } in
    let e = rw (to_z-of_z f.beta_0, to_z-of_z f.beta_1) at c.saturating_sub.ensures in
    (rw (to_z-of_z f.alpha_0, to_z-of_z f.alpha_1, to_z-of_z f.beta_1, to_z-of_z g) at c.law.ensures)
    ∙ ap (law_of_line a.alpha_0 a.alpha_1 a.beta_1) e
    ∙ same_law a.alpha_0 a.alpha_1 a.beta_1 (a.beta_0 -ℤ a.beta_1)
