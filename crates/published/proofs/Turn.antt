-- Turning signs: it goes through sums and to one factor of a product, and an equation whose two sides are both turned is the same equation,
-- so that a publication's line and that of the law made are one (`to_steps`, `from_steps`).
use mathlib.Core.Path.{◌≡◌, refl, sym, ◌∙◌, ap}
use mathlib.Core.Bool.{Bool, true, false, cond}
use Prim.Native.Nat.{ℕ, zero, suc, ◌*◌, ◌-◌}
use native.Mathlib.Nat as NL
use lib.IntN.{ℤ, pos, neg_ℤ, nat_abs, ◌+ℤ◌, ◌*ℤ◌}
use lib.Signed.{lt_z, yes_non_neg, pos-nat_abs}
use Rattle.algebra.specs.Semiring.{nat}
use Rattle.algebra.specs.Ring.{int}
use Rattle.algebra.specs.Fraction.{Fraction, whole, ◌⊗◌}
use Rattle.algebra.proofs.Integer.{integers}
use Rattle.algebra.proofs.Ring.{neg_add, neg_mul, neg_neg, int_pos, int_neg}
use Rattle.algebra.proofs.Value.{order, ℚ, value, value_eq, eq_of_value, value_times, value_int}
use Rattle.published.specs.Call.{turn}
use Rattle.published.specs.Line.{Follows}
use Rattle.published.proofs.Accepted.{turn_nonneg}
use Rattle.published.proofs.Steps.{Steps, before}
open ℚ use {carrier as Q, ◌·◌}

infixl 7 ◌·◌
-- ---- turned integers
turn_turn : (D z : ℤ) → turn D (turn D z) ≡ z
turn_turn D z = by (lt_z D (pos 0))
  where
    by : (t : Bool) → cond t (neg_ℤ (cond t (neg_ℤ z) z)) (cond t (neg_ℤ z) z) ≡ z
    by true = neg_neg integers z
    by false = refl

turn_add : (D x y : ℤ) → turn D (x +ℤ y) ≡ turn D x +ℤ turn D y
turn_add D x y = by (lt_z D (pos 0))
  where
    by : (t : Bool) → cond t (neg_ℤ (x +ℤ y)) (x +ℤ y) ≡ cond t (neg_ℤ x) x +ℤ cond t (neg_ℤ y) y
    by true = neg_add integers x y
    by false = refl

turn_mul : (D x y : ℤ) → turn D (x *ℤ y) ≡ turn D x *ℤ y
turn_mul D x y = by (lt_z D (pos 0))
  where
    by : (t : Bool) → cond t (neg_ℤ (x *ℤ y)) (x *ℤ y) ≡ cond t (neg_ℤ x) x *ℤ y
    by true = sym (neg_mul integers x y)
    by false = refl

-- the left and the right of a line
turn_left : (D : ℤ) (m : ℕ) → turn D (D *ℤ pos m) ≡ pos (nat_abs (turn D D) * m)
turn_left D m = turn_mul D D (pos m) ∙ ap (λ (z : ℤ). z *ℤ pos m) (sym (pos-nat_abs (turn D D) (yes_non_neg (turn_nonneg D))))

turn_right : (D A B : ℤ) (m : ℕ) → turn D (A *ℤ pos m +ℤ B) ≡ turn D A *ℤ pos m +ℤ turn D B
turn_right D A B m = turn_add D (A *ℤ pos m) B ∙ ap (λ (z : ℤ). z +ℤ turn D B) (turn_mul D A (pos m))

-- ---- an equation over ℚ, both sides turned
turned_sides : (D L R : ℤ) (u v : Q) → int order.ring L · u ≡ int order.ring R · v
    → int order.ring (turn D L) · u ≡ int order.ring (turn D R) · v
turned_sides D L R u v e = by (lt_z D (pos 0))
  where
    minus : (z : ℤ) (w : Q) → int order.ring (neg_ℤ z) · w ≡ order.ring.neg (int order.ring z · w)
    minus z w = ap (λ (x : Q). x · w) (int_neg order.ring z) ∙ neg_mul order.ring (int order.ring z) w

    by : (t : Bool) → int order.ring (cond t (neg_ℤ L) L) · u ≡ int order.ring (cond t (neg_ℤ R) R) · v
    by true = minus L u ∙ ap order.ring.neg e ∙ sym (minus R v)
    by false = e

-- ---- a publication's line, and that of the law made
-- the two sides of the line, from n = 1 on
pub record Sides (D A B : ℤ) (left right : ℕ → ℤ) : Type 0 where
  pub left_is : (n : ℕ) → left (suc n) ≡ D *ℤ pos (suc n)
  pub right_is : (n : ℕ) → right (suc n) ≡ A *ℤ pos (suc n) +ℤ B

value_side : (z : ℤ) (x : Fraction) → value (whole z ⊗ x) ≡ int order.ring z · value x
value_side z x = value_times (whole z) x ∙ ap (λ (v : Q). v · value x) (value_int z)

module _ (D A B : ℤ) (left right : ℕ → ℤ) (sides : Sides D A B left right) (p : ℕ → Fraction) where
  turned_left : (n : ℕ) → int order.ring (turn D (left (suc n))) ≡ nat ℚ (nat_abs (turn D D) * suc n)
  turned_left n = ap (int order.ring) (ap (turn D) (sides.left_is n) ∙ turn_left D (suc n))
      ∙ int_pos order.ring (nat_abs (turn D D) * suc n)

  turned_right : (n : ℕ) → turn D (right (suc n)) ≡ turn D A *ℤ pos (suc n) +ℤ turn D B
  turned_right n = ap (turn D) (sides.right_is n) ∙ turn_right D A B (suc n)

  pub to_steps : Follows left right p → Steps (nat_abs (turn D D)) (turn D A) (turn D B) (λ n. value (p n))
  to_steps f n =
      ap (λ (v : Q). v · value (p (suc n))) (sym (turned_left n))
      ∙ turned_sides D (left (suc n)) (right (suc n)) (value (p (suc n))) (value (p n)) line
      ∙ ap (λ (z : ℤ). int order.ring z · value (p n)) (turned_right n)
    where
      line : int order.ring (left (suc n)) · value (p (suc n)) ≡ int order.ring (right (suc n)) · value (p n)
      line = sym (value_side (left (suc n)) (p (suc n))) ∙ value_eq (f (suc n) (NL.zero-lt-suc n))
          ∙ value_side (right (suc n)) (p (suc n - 1)) ∙ ap (λ (m : ℕ). int order.ring (right (suc n)) · value (p m)) (before n)

  pub from_steps : Steps (nat_abs (turn D D)) (turn D A) (turn D B) (λ n. value (p n)) → Follows left right p
  from_steps s zero l = absurd (NL.not-suc-le-zero l)
  from_steps s (suc n) l = eq_of_value (value_side (left (suc n)) (p (suc n))
      ∙ ap (λ (z : ℤ). int order.ring z · value (p (suc n))) (sym (turn_turn D (left (suc n))))
      ∙ turned_sides D (turn D (left (suc n))) (turn D (right (suc n))) (value (p (suc n))) (value (p n)) turned
      ∙ ap (λ (z : ℤ). int order.ring z · value (p n)) (turn_turn D (right (suc n)))
      ∙ ap (λ (m : ℕ). int order.ring (right (suc n)) · value (p m)) (sym (before n))
      ∙ sym (value_side (right (suc n)) (p (suc n - 1))))
    where
      turned : int order.ring (turn D (left (suc n))) · value (p (suc n)) ≡ int order.ring (turn D (right (suc n))) · value (p n)
      turned = ap (λ (v : Q). v · value (p (suc n))) (turned_left n) ∙ s n
          ∙ ap (λ (z : ℤ). int order.ring z · value (p n)) (sym (turned_right n))
