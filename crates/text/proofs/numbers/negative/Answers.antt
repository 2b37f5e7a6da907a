-- By what `unsigned` finds: the number n that it gives is the value of the digits, which is small, and -n is its negative.
use mathlib.Core.Path.{◌≡◌, sym, ap, ◌∙◌}
use mathlib.Core.Bool.{true, false}
use mathlib.Core.List.{List}
use mathlib.Core.Option.{some}
use Prim.Native.Nat.{ℕ, ◌<◌, ◌^◌}
use native.Mathlib.Omega.{arith}
use lib.IntN.{ℤ, pos, neg_ℤ, nat_abs}
use mir.Syntax.{w64}
use mir.Val.{of_z}
use Rattle.algebra.proofs.Size.{negative_local_fits, negative_held}
use Rattle.text.specs.Numbers.{is_numeral, value, number, found}
use Rattle.text.proofs.Read.{numeral_some, negative_none, negative_zero, negative_value}
use Rattle.text.proofs.Decimal.{numeral_below}
use Rattle.text.proofs.numbers.negative.Goals as goal

-- where a word is the number n
module _ (word : List ℕ) (n : ℤ) (e : some n ≡ number false word) where
  is_value : (is_numeral word ≡ true) × (n ≡ pos (value word))
  is_value = numeral_some word n (sym e)

  small : nat_abs n < 2 ^ 63
  small = omega (arith, ap nat_abs is_value.1, numeral_below word is_value.0)

  -- a local has it, so zero there is the value zero
  zero_value : of_z w64 n ≡ 0 → value word ≡ 0
  zero_value h = sym (ap (of_z w64) is_value.1) ∙ h

  value_zero : value word ≡ 0 → of_z w64 n ≡ 0
  value_zero h = ap (of_z w64) is_value.1 ∙ h

pub returns-in_err-n : goal.returns-in_err-n
returns-in_err-n c = ap found c.from_residual.ensures ∙ sym (negative_none c.args.digits.now (sym c.in_err-n.ensures))

pub returns-then-n-eq0 : goal.returns-then-n-eq0
returns-then-n-eq0 c = sym (negative_zero c.args.digits.now (zero_value c.args.digits.now c.in_ok-n.n c.in_ok-n.ensures c.if-n-eq0.true))

pub overflow_sub-result : goal.overflow_sub-result
overflow_sub-result c = negative_local_fits w64 c.in_ok-n.n (small c.args.digits.now c.in_ok-n.n c.in_ok-n.ensures)

pub returns-else-n-eq0 : goal.returns-else-n-eq0
returns-else-n-eq0 c =
    let word = c.args.digits.now in
    let n = c.in_ok-n.n in
    let e : some n ≡ number false word = c.in_ok-n.ensures in
    let known = is_value word n e in
    ap some (negative_held w64 n (small word n e) ∙ ap neg_ℤ known.1)
    ∙ sym (negative_value word known.0 (λ h. c.if-n-eq0.false (value_zero word n e h)))
