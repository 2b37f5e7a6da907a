-- The loop's invariant: `sum` is the sum of the entries so far.
use mathlib.Core.Path.{◌≡◌}
use Rattle.intervals.proofs.Sums.{sum_before}
use Rattle.layer.proofs.cost.sum_below.Given as goal

abbrev pub invariant-loop-entry : goal.invariant-loop-entry
invariant-loop-entry l = l.sum ≡ sum_before l.row.entries.now l.entry-index
