-- Layers that follow each other save together what the layer over both saves, and the first saves nothing from its limit on, so that its
-- sum may go on to the limit of the second.
use mathlib.Core.Path.{◌≡◌, sym, ◌∙◌, ap, ap₂}
use mathlib.Core.List.{List, [], ◌∷◌}
use Prim.Native.Nat.{ℕ, ◌*◌, ◌-◌, ◌≤◌}
use native.Mathlib.Omega.{arith}
use lib.IntN.{ℤ, pos, ◌+ℤ◌, ◌-ℤ◌, ◌*ℤ◌}
use lib.ListN.{get_or}
use Rattle.algebra.specs.Semiring.{Semiring}
use Rattle.algebra.specs.Sum.{sumℤ}
use Rattle.algebra.specs.Solver.{var, ◌:+◌, :-◌}
use Rattle.algebra.proofs.Integer.{integers, signed, split_add}
use Rattle.algebra.proofs.Semiring.{zero_mul, add_mul}
use Rattle.algebra.proofs.Solver.{solve}
use Rattle.algebra.proofs.Sum.{sum_cong, sum_add, sum_cut}
use Rattle.model.specs.Limits.{unit}
use Rattle.layer.specs.Layer.{saving, cost_by, LayersAddUp}
use Rattle.layer.proofs.Saving.{saving_none, saving_adds}

abbrev Z : Semiring
Z = integers.semiring

module _ (row : List ℤ) (c d e : ℕ) (h : c ≤ d) (k : d ≤ e) where
  abbrev entry : ℕ → ℤ
  entry x = get_or row x (pos 0)

  abbrev saved : (c d x : ℕ) → ℤ
  saved c d x = pos (saving c d x) *ℤ entry x

  longer : sumℤ d (saved c d) ≡ sumℤ e (saved c d)
  longer = sym (sum_cut Z e d (saved c d) none ∙ ap (λ (n : ℕ). sumℤ n (saved c d)) (omega arith))
    where
      none : (x : ℕ) → d ≤ x → saved c d x ≡ pos 0
      none x l = ap (λ (n : ℕ). pos n *ℤ entry x) (saving_none c d x l) ∙ zero_mul Z (entry x)

  together : sumℤ d (saved c d) +ℤ sumℤ e (saved d e) ≡ sumℤ e (saved c e)
  together =
      ap (λ (z : ℤ). z +ℤ sumℤ e (saved d e)) longer
      ∙ sym (sum_add Z e (saved c d) (saved d e))
      ∙ sum_cong Z e (λ x l. sym (add_mul Z (pos (saving c d x)) (pos (saving d e x)) (entry x))
      ∙ ap (λ (n : ℕ). pos n *ℤ entry x) (saving_adds c d e x h k))

  widths : pos ((d - c) * unit) +ℤ pos ((e - d) * unit) ≡ pos ((e - c) * unit)
  widths = omega (signed, split_add (pos ((d - c) * unit)) (pos ((e - d) * unit)))

  apart : (a b s t : ℤ) → (a -ℤ s) +ℤ (b -ℤ t) ≡ (a +ℤ b) -ℤ (s +ℤ t)
  apart a b s t = solve integers (a ∷ b ∷ s ∷ t ∷ [])
      (var 0 :+ :- var 2 :+ (var 1 :+ :- var 3)) (var 0 :+ var 1 :+ :- (var 2 :+ var 3)) tt

  costs_add : cost_by row c d +ℤ cost_by row d e ≡ cost_by row c e
  unfolding cost_by
  costs_add = apart (pos ((d - c) * unit)) (pos ((e - d) * unit)) (sumℤ d (saved c d)) (sumℤ e (saved d e)) ∙ ap₂ ◌-ℤ◌ widths together

pub layers_add_up : LayersAddUp
layers_add_up = costs_add
