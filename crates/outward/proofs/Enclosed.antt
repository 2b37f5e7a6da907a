-- What rounding outward keeps, in any ordered ring: a number is at least the floor of z over n where its product with n is at least z, and
-- at most the ceiling where the product is at most z. The factor n cancels.
use mathlib.Core.Path.{◌≡◌, refl, ◌∙◌, ap}
use Prim.Native.Nat.{ℕ, ◌≤◌}
use lib.IntN.{ℤ, pos, ◌*ℤ◌}
use Rattle.algebra.specs.Semiring.{nat}
use Rattle.algebra.specs.Ring.{int}
use Rattle.algebra.specs.Order.{OrderedRing}
use Rattle.algebra.proofs.Ring.{int_pos, int_mul}
use Rattle.algebra.proofs.Order.{rewritten, cancel_le, int_mono}
use Rattle.outward.specs.Division.{floor_div, ceil_div}
use Rattle.outward.proofs.Division.{floor_is, ceil_is}

module _ (O : OrderedRing) where
  open O use {◌⊑◌}
  open O.ring.semiring use {carrier as A, ◌·◌}

  infix 4 ◌⊑◌
  infixl 7 ◌·◌
  abbrev integer : ℤ → A
  integer = int O.ring

  abbrev natural : ℕ → A
  natural = nat O.ring.semiring

  pub times_natural : (n : ℕ) (z : ℤ) → integer (pos n *ℤ z) ≡ natural n · integer z
  times_natural n z = int_mul O.ring (pos n) z ∙ ap (λ (v : A). v · integer z) (int_pos O.ring n)

  pub floor_le : (z : ℤ) (n : ℕ) {v : A} → 1 ≤ n → integer z ⊑ natural n · v → integer (floor_div z n) ⊑ v
  floor_le z n l h =
      cancel_le O n l (O.le_trans (rewritten O (int_mono O (floor_is z n l).0) (times_natural n (floor_div z n)) refl) h)

  pub le_ceil : (z : ℤ) (n : ℕ) {v : A} → 1 ≤ n → natural n · v ⊑ integer z → v ⊑ integer (ceil_div z n)
  le_ceil z n l h =
      cancel_le O n l (O.le_trans h (rewritten O (int_mono O (ceil_is z n l).0) refl (times_natural n (ceil_div z n))))
