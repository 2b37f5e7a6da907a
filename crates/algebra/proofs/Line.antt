-- By the sign of the slope: products with a natural number are in the order of the numbers, and a line that falls has lost, at each place,
-- its slope times the places passed.
use mathlib.Core.Path.{◌≡◌, sym, ◌∙◌, ap}
use mathlib.Core.List.{[], ◌∷◌}
use Prim.Native.Nat.{ℕ, suc, ◌+◌, ◌*◌, ◌≤◌, ◌<◌}
use native.Mathlib.Nat as NL
use native.Mathlib.Omega.{arith}
use lib.Dec.{ltb→lt}
use lib.IntN.{ℤ, pos, negsuc, neg_ℤ, nat_abs, ◌+ℤ◌, ◌*ℤ◌, neg_ℤ-+ℤ}
use lib.Signed.{◌≤ℤ◌, ◌<ℤ◌, yes_non_neg, pos-nat_abs}
use Rattle.algebra.specs.Line.{line, LineBefore, LineNegative, LineLater, LineAsFar, LinePast}
use Rattle.algebra.specs.Solver.{var, unit as one, ◌:+◌, ◌:*◌, :-◌}
use Rattle.algebra.proofs.Solver.{solve}
use Rattle.algebra.proofs.Ring.{neg_mul}
use Rattle.algebra.proofs.Integer.{integers, signed, split_add, split_mul, +ℤ-mono, ≤ℤ-trans}

pub line_before : (s c : ℤ) → LineBefore s c
line_before s c n = solve integers (s ∷ pos n ∷ c ∷ []) (var 0 :* (var 1 :+ one) :+ var 2 :+ :- var 0) (var 0 :* var 1 :+ var 2) tt

pub line_negative : (s c : ℤ) → LineNegative s c
line_negative s c n = ap (λ (z : ℤ). z +ℤ neg_ℤ c) (neg_mul integers s (pos n)) ∙ sym (neg_ℤ-+ℤ (s *ℤ pos n) c)

pub line_later : (s c : ℤ) → LineLater s c
line_later (pos s) c a b p h first =
    ≤ℤ-trans first (+ℤ-mono {a = pos s *ℤ pos a} {b = pos s *ℤ pos b} c (omega (signed, NL.mul-le-mul_left s h)))
line_later (negsuc s) c a b p h first = absurd p.le

-- ---- a line that falls
module _ (s : ℕ) (c : ℤ) (a : ℕ) (first : pos 0 ≤ℤ line (negsuc s) c a) where
  abbrev height : ℕ
  height = nat_abs (line (negsuc s) c a)

  lost : (b : ℕ) → line (negsuc s) c b +ℤ pos (suc s * b) ≡ pos (height + suc s * a)
  lost b = omega (
    signed,
    split_add (line (negsuc s) c b) (pos (suc s * b)),
    split_add (negsuc s *ℤ pos a) c,
    split_add (negsuc s *ℤ pos b) c,
    split_mul (negsuc s) (pos a),
    split_mul (negsuc s) (pos b),
    pos-nat_abs (line (negsuc s) c a) (yes_non_neg first),
  )

not_below : (s : ℕ) → ¬ (pos s <ℤ pos 0)
not_below s h = NL.not-suc-le-zero (ltb→lt s 0 h.lt)

pub line_as_far : (s c : ℤ) → LineAsFar s c
line_as_far (pos s) c a b p first h = absurd (not_below s p)
line_as_far (negsuc s) c a b p first h =
    let most : suc s * b ≤ height s c a first + suc s * a =
    omega (arith, NL.mul-le-mul_left (suc s) h, NL.mul-div-le (height s c a first) (suc s)) in
    omega (signed, lost s c a first b, split_add (line (negsuc s) c b) (pos (suc s * b)))

pub line_past : (s c : ℤ) → LinePast s c
line_past (pos s) c a b p first h = absurd (not_below s p)
line_past (negsuc s) c a b p first h =
    let least : height s c a first + suc s * a < suc s * b =
    omega (arith, NL.mul-le-mul_left (suc s) h, NL.lt-mul-div-succ (height s c a first) (NL.zero-lt-suc s)) in
    omega (signed, lost s c a first b, split_add (line (negsuc s) c b) (pos (suc s * b)))
