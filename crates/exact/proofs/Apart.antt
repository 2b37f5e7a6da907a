-- Two fractions are at most e apart where the difference of their values is at most e in size; so distances add up, and the amounts of two
-- starting chances are as far apart as those, times a constant.
use mathlib.Core.Path.{◌≡◌, refl, sym, ◌∙◌, ap, ap₂, subst, subst₂}
use mathlib.Core.List.{[], ◌∷◌}
use Prim.Native.Nat.{ℕ, suc, ◌*◌, ◌≤◌}
use native.Mathlib.Nat as NL
use native.Mathlib.Omega.{arith}
use lib.IntN.{pos, nat_abs}
use Rattle.algebra.specs.Semiring.{nat}
use Rattle.algebra.specs.Solver.{var, ◌:+◌, ◌:*◌, :-◌}
use Rattle.algebra.specs.Fraction.{Fraction, over, whole, ◌⊕◌, ◌⊗◌, zero_to}
use Rattle.algebra.proofs.Semiring.{nat_mul}
use Rattle.algebra.proofs.Order.{rewritten, nat_mono}
use Rattle.algebra.proofs.Solver.{solve}
use Rattle.algebra.proofs.Value.{order, ℚ, value, value_le, le_of_value, value_plus, value_times, value_nat, value_over_nat, value_upper}
use Rattle.exact.specs.Frequency.{Frequency, count_coefficient}
use Rattle.exact.specs.Severity.{Severity, density, convolution}
use Rattle.exact.specs.Amount.{exact_amount}
use Rattle.exact.specs.Zeros.{Apart}
use Rattle.algebra.proofs.Sized.{Sized, sized_mono, sized_add, sized_mul, sized_int, sized_over}
open order.ring use {neg}
open ℚ use {carrier as A, ◌⊹◌, ◌·◌}

infixl 6 ◌⊹◌
infixl 7 ◌·◌
-- the lower number of a fraction is at least 1
pub sized_value : (x : Fraction) → Sized order (value x) (nat ℚ (nat_abs x.upper))
sized_value x = sized_over order x.lower x.lower_pos (subst (λ (v : A). Sized order v (nat ℚ x.lower · nat ℚ (nat_abs x.upper)))
    (sym (value_upper x)) (sized_mono order (sized_int order x.upper)
    (rewritten order (nat_mono order {n = x.lower * nat_abs x.upper} (large x.lower (nat_abs x.upper) x.lower_pos)) refl
    (nat_mul ℚ x.lower (nat_abs x.upper)))))
  where
    large : (n m : ℕ) → 1 ≤ n → m ≤ n * m
    large n m l = omega (arith, NL.mul-le-mul_right m l)

pub apart : (e : Fraction) {x y : Fraction} → Sized order (value x ⊹ neg (value y)) (value e) → Apart e x y
apart e {x} {y} s = (
  le_of_value (rewritten order (order.add_le (value y) s.most)
      (solve order.ring (value x ∷ value y ∷ []) (var 0 :+ :- var 1 :+ var 1) (var 0) tt)
      (ℚ.add_comm (value e) (value y) ∙ sym (value_plus y e))),
  le_of_value (rewritten order (order.add_le (value x) s.least)
      (solve order.ring (value x ∷ value y ∷ []) (:- (var 0 :+ :- var 1) :+ var 0) (var 1) tt)
      (ℚ.add_comm (value e) (value x) ∙ sym (value_plus x e))),
)

of_apart : (e : Fraction) {x y : Fraction} → Apart e x y → Sized order (value x ⊹ neg (value y)) (value e)
of_apart e {x} {y} (most, least) = record {
  most = rewritten order (order.add_le (neg (value y)) (value_le most)) refl (left y);
  least = rewritten order (order.add_le (neg (value x)) (value_le least))
      (solve order.ring (value x ∷ value y ∷ []) (var 1 :+ :- var 0) (:- (var 0 :+ :- var 1)) tt) (left x);
}
  where
    left : (z : Fraction) → value (z ⊕ e) ⊹ neg (value z) ≡ value e
    left z = ap (λ (v : A). v ⊹ neg (value z)) (value_plus z e)
        ∙ solve order.ring (value z ∷ value e ∷ []) (var 0 :+ var 1 :+ :- var 0) (var 1) tt

-- a difference whose product with n + 1 is at most k in size
pub apart_over : {x y : Fraction} (n k : ℕ) → Sized order (nat ℚ (suc n) · (value x ⊹ neg (value y))) (nat ℚ k)
    → Apart (over (pos k) (suc n) (NL.zero-lt-suc n)) x y
apart_over {x} {y} n k s = apart (over (pos k) (suc n) (NL.zero-lt-suc n)) (sized_over order (suc n) (NL.zero-lt-suc n)
    (subst (λ (w : A). Sized order (nat ℚ (suc n) · (value x ⊹ neg (value y))) w) (sym (value_over_nat k (suc n) (NL.zero-lt-suc n))) s))

pub apart_then : (d e : Fraction) {x y z : Fraction} → Apart d x y → Apart e y z → Apart (d ⊕ e) x z
apart_then d e {x} {y} {z} h k = apart (d ⊕ e) (subst₂ (Sized order)
    (solve order.ring (value x ∷ value y ∷ value z ∷ []) (var 0 :+ :- var 1 :+ (var 1 :+ :- var 2)) (var 0 :+ :- var 2) tt)
    (sym (value_plus d e)) (sized_add order (of_apart d h) (of_apart e k)))

-- ---- an amount is its starting chance times a constant, whose upper number bounds it
module _ (law : Frequency) (table : Severity) (x : ℕ) where
  constant : Fraction
  constant = zero_to x (λ n. count_coefficient law n ⊗ convolution (density table) n x)

  pub constant_size : ℕ
  constant_size = nat_abs constant.upper

  pub amounts_apart : (e : Fraction) {p q : Fraction} → Apart e p q
      → Apart (whole (pos constant_size) ⊗ e) (exact_amount law table p x) (exact_amount law table q x)
  unfolding constant constant_size exact_amount
  amounts_apart e {p} {q} h = apart (whole (pos constant_size) ⊗ e) (subst₂ (Sized order)
      (solve order.ring (value constant ∷ value p ∷ value q ∷ [])
      (var 0 :* (var 1 :+ :- var 2)) (var 1 :* var 0 :+ :- (var 2 :* var 0)) tt
      ∙ ap₂ (λ (u v : A). u ⊹ neg v) (sym (value_times p constant)) (sym (value_times q constant)))
      (ap (λ (v : A). v · value e) (sym (value_nat constant_size)) ∙ sym (value_times (whole (pos constant_size)) e))
      (sized_mul order (sized_value constant) (of_apart e h)))
