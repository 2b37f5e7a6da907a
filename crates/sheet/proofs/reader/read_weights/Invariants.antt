-- The loop's invariant: what the lines give is what those still due give after the weights so far, which are the first i of the row.
use mathlib.Core.Path.{◌≡◌}
use mathlib.Core.List.{[]}
use Prim.Native.Nat.{◌-◌}
use lib.ListN.{length, take}
use Rattle.model.specs.declared.Job.{Job}
use Rattle.grammar.specs.Reading.{weight_lines}
use Rattle.sheet.proofs.reader.read_weights.Given as goal

abbrev pub invariant-loop-weight : goal.invariant-loop-weight
invariant-loop-weight l = (job : Job) → weight_lines job [] (length l.fn.row) l.fn.due.line l.fn.due.rest.now
    ≡ weight_lines job (take l.weight-index l.row) (length l.row - l.weight-index) l.due.line l.due.rest.now
