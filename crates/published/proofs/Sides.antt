-- Each form's sides are those of a line with D, A and B once its constant is 0: by the laws of whole numbers, at one more than a number.
use mathlib.Core.Path.{◌≡◌, ◌∙◌, ap}
use mathlib.Core.List.{[], ◌∷◌}
use Prim.Native.Nat.{ℕ, suc, ◌+◌, ◌-◌}
use native.Mathlib.Omega.{arith}
use lib.IntN.{ℤ, pos, ◌+ℤ◌, ◌-ℤ◌, ◌*ℤ◌, +ℤ_comm, +ℤ_idl}
use Rattle.algebra.specs.Solver.{var, unit, ◌:+◌, ◌:*◌, :-◌}
use Rattle.algebra.proofs.Integer.{integers}
use Rattle.algebra.proofs.Solver.{solve}
use Rattle.published.proofs.Steps.{before}
use Rattle.published.proofs.Turn.{Sides}

pub hesselager_sides : (b₀ b₁ a₀ a₁ : ℤ) → b₀ ≡ pos 0 → Sides b₁ a₁ a₀ (λ n. b₀ +ℤ b₁ *ℤ pos n) (λ n. a₀ +ℤ a₁ *ℤ pos n)
hesselager_sides b₀ b₁ a₀ a₁ e = record {
  left_is = λ n. rw e (+ℤ_idl (b₁ *ℤ pos (suc n)));
  right_is = λ n. +ℤ_comm a₀ (a₁ *ℤ pos (suc n));
}

pub panjer_willmot_sides : (α₀ α₁ β₀ β₁ : ℤ) → α₀ ≡ pos 0
    → Sides α₁ β₁ (β₀ -ℤ β₁) (λ n. α₀ +ℤ α₁ *ℤ pos n) (λ n. β₀ +ℤ β₁ *ℤ pos (n - 1))
panjer_willmot_sides α₀ α₁ β₀ β₁ e = record {
  left_is = λ n. rw e (+ℤ_idl (α₁ *ℤ pos (suc n)));
  right_is = right_is;
}
  where
    right_is : (n : ℕ) → β₀ +ℤ β₁ *ℤ pos (suc n - 1) ≡ β₁ *ℤ pos (suc n) +ℤ (β₀ -ℤ β₁)
    right_is n = ap (λ (m : ℕ). β₀ +ℤ β₁ *ℤ pos m) (before n) ∙ solve integers (β₀ ∷ β₁ ∷ pos n ∷ [])
        (var 0 :+ var 1 :* var 2) (var 1 :* (var 2 :+ unit) :+ (var 0 :+ :- var 1)) tt
        ∙ ap (λ (m : ℕ). β₁ *ℤ pos m +ℤ (β₀ -ℤ β₁)) after
      where
        after : n + 1 ≡ suc n
        after = omega arith
