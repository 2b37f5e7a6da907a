-- The loop's invariant: what the lines give is what those still due give after the terms so far, which the arrays hold.
use mathlib.Core.Path.{◌≡◌}
use Prim.Native.Nat.{ℕ, ◌+◌, ◌-◌}
use Rattle.model.specs.Job.{law_of}
use Rattle.grammar.specs.Reading.{law_line, term_lines}
use Rattle.sheet.proofs.reader.read_law.Given as goal

abbrev pub invariant-loop-i : goal.invariant-loop-i
invariant-loop-i l = (l.due.line ≡ l.i + 2) × ((places : ℕ) → law_line places l.fn.due.rest.now
    ≡ term_lines places (law_of l.order l.divisor l.a l.b) l.i (l.order - l.i) l.due.rest.now)
