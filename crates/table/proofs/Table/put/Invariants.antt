-- The lines of the totals passed are put.
use Rattle.output.specs.Output.{PutsInto}
use Rattle.table.specs.Lines.{total_lines}
use Rattle.table.proofs.Table.put.Given as goal

abbrev pub invariant-loop-total : goal.invariant-loop-total
invariant-loop-total l =
    let rows = l.self in
    PutsInto (total_lines l.total rows.low.now rows.high.now rows.bound.now rows.mark.now) l.initial.out l.out
