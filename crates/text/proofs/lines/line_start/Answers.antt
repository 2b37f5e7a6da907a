-- The loop's invariant: what follows the first n - 1 line ends of the text is what follows the first n - counter of what is left of it.
use mathlib.Core.Path.{sym, ap, ◌∙◌}
use mathlib.Core.List.{List}
use Prim.Native.Nat.{ℕ, ◌+◌, ◌-◌}
use native.Mathlib.Nat as NL
use native.Mathlib.Omega.{arith}
use lib.ListN.{length}
use Rattle.text.specs.Lines.{after_lines}
use Rattle.text.proofs.Scan.{lines_next}
use Rattle.text.proofs.lines.line_start.Goals as goal

pub loop-preserved : goal.loop-preserved
loop-preserved c =
    let n = c.args.n in (
      c.loop.invariant.0
          ∙ lines_next n c.loop.counter c.loop.rest.now c.loop-test.true
          ∙ ap (after_lines (n - (c.loop.counter + 1))) (sym c.after-rest.ensures.rest),
      omega (arith, c.loop.invariant.1, c.after-rest.ensures.within),
    )

pub returns : goal.returns
unfolding after_lines
returns c =
    let none_left = NL.sub-eq-zero_of_le c.loop-test.false in
    ap (λ (left : List ℕ). length c.args.text.now - length left)
    (sym (c.loop.invariant.0 ∙ ap (λ (k : ℕ). after_lines k c.loop.rest.now) none_left))
