-- Each test of the code is a condition of the list, due where no condition before it holds; the code's tests for zero look at bits.
use borrow.Author.Rules.{rules}
use borrow.Author.Tests.{ne_eqb}
use mathlib.Core.Path.{◌≡◌, refl, sym, ◌∙◌, ap}
use mathlib.Core.Bool.{Bool, true, false, not, ◌||◌}
use Prim.Native.Nat.{zero, suc}
use lib.IntN.{ℤ, pos, negsuc}
use mir.Syntax.{w64}
use mir.Val.{SFits, to_z, of_z}
use mir.Facts.{to_z-of_z}
use Rattle.algebra.specs.Table.{same_integer}
use Rattle.model.specs.Limits.{beyond}
use Rattle.model.proofs.Answer.{Due, due_first, due_next, due_refuses, due_accepts}
use Rattle.model.specs.Answer.{accepted}
use Rattle.published.specs.Call.{answered, checks}
use Rattle.published.proofs.Accepted.{law_is, limits_are}
use Rattle.published.proofs.Line.law.Goals as goal

-- ---- tests for zero
test_yes : {z : ℤ} → SFits w64 z → of_z w64 z ≡ 0 → same_integer z (pos 0) ≡ true
test_yes f e = rw (sym (to_z-of_z f) ∙ ap (to_z w64) e) refl

test_no : (z : ℤ) → ¬ (of_z w64 z ≡ 0) → same_integer z (pos 0) ≡ false
test_no (pos zero) f = absurd (f refl)
test_no (pos (suc n)) f = ne_eqb (suc n) 0 f
test_no (negsuc n) f = refl

-- ---- one condition after the other
module _ (constant divisor a b : ℤ) where
  -- 51
  constant_due : Due (checks constant divisor a b) 0 (not (same_integer constant (pos 0)))
  constant_due = due_first refl

  constant_none : SFits w64 constant → of_z w64 constant ≡ 0 → not (same_integer constant (pos 0)) ≡ false
  constant_none f e = ap not (test_yes f e)

  -- 52
  coefficient_due : not (same_integer constant (pos 0)) ≡ false → Due (checks constant divisor a b) 1 (same_integer divisor (pos 0))
  coefficient_due e = due_next constant_due e refl

  -- 53
  limits_due : {wrong : Bool} → not (same_integer constant (pos 0)) ≡ false → same_integer divisor (pos 0) ≡ false
      → wrong ≡ (beyond 1000 divisor || (beyond 1000 a || beyond 1000 b)) → Due (checks constant divisor a b) 2 wrong
  limits_due e f g = due_next (coefficient_due e) f (g ∙ limits_are divisor a b f)

-- ---- the answers
pub returns-then-constant-ne0 : goal.returns-then-constant-ne0
returns-then-constant-ne0 c =
    let line = c.args.self in
    let f = ap not (test_no c.args.constant c.if-constant-ne0.true) in
    sym (law_is _ _ _ _ (due_refuses (constant_due c.args.constant line.divisor line.a line.b) f))

pub returns-then-self-eq0 : goal.returns-then-self-eq0
returns-then-self-eq0 c =
    let line = c.args.self in
    let e = constant_none c.args.constant line.divisor line.a line.b c.ranges.constant c.if-constant-ne0.false in
    let f : SFits w64 line.divisor = search rules in
    sym (law_is _ _ _ _ (due_refuses (coefficient_due c.args.constant line.divisor line.a line.b e) (test_yes f c.if-self-eq0.true)))

pub returns-then-is_outside : goal.returns-then-is_outside
returns-then-is_outside c =
    let line = c.args.self in
    let e = constant_none c.args.constant line.divisor line.a line.b c.ranges.constant c.if-constant-ne0.false in
    let f = test_no line.divisor c.if-self-eq0.false in
    let due = limits_due c.args.constant line.divisor line.a line.b e f c.is_outside.ensures in
    sym (law_is _ _ _ _ (due_refuses due c.if-is_outside.true))

pub returns : goal.returns
returns c =
    let line = c.args.self in
    let e = constant_none c.args.constant line.divisor line.a line.b c.ranges.constant c.if-constant-ne0.false in
    let f = test_no line.divisor c.if-self-eq0.false in
    let due = limits_due c.args.constant line.divisor line.a line.b e f c.is_outside.ensures in
    ap (answered accepted) c.turned.ensures ∙ sym (law_is _ _ _ _ (due_accepts refl due c.if-is_outside.false))
