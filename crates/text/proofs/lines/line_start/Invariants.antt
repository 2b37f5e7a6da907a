-- The loop's invariant: what follows the first n - 1 line ends of the text is what follows the first n - counter of what is left of it.
use mathlib.Core.Path.{◌≡◌}
use Prim.Native.Nat.{◌-◌, ◌≤◌}
use lib.ListN.{length}
use Rattle.text.specs.Lines.{after_lines}
use Rattle.text.proofs.lines.line_start.Given as goal

abbrev pub invariant-loop : goal.invariant-loop
invariant-loop l = (after_lines (l.n - 1) l.text ≡ after_lines (l.n - l.counter) l.rest) × (length l.rest ≤ length l.text)
