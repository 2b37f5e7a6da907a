-- The loop's invariant: `sum` is the sum of the entries below x, and no running sum before x reaches the level.
use mathlib.Core.Path.{◌≡◌}
use lib.Signed.{le_z}
use lib.ListN.{length}
use Rattle.algebra.proofs.Smallest.{Searched}
use Rattle.intervals.proofs.Sums.{sum_before}
use Rattle.quantile.specs.Call.{running_sum}
use Rattle.quantile.proofs.search.quantile_of.Given as goal

abbrev pub invariant-loop-x : goal.invariant-loop-x
invariant-loop-x l =
    let row = l.row.entries.now in (l.sum ≡ sum_before row l.x) × Searched (λ y. le_z l.level (running_sum row y)) (length row) l.x
