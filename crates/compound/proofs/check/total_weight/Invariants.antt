-- The weights that are still to come bring the sum so far to that of the whole row.
use Rattle.std.proofs.Common.{◌≡◌, ◌+◌, ◌≤◌, min, drop}
use Rattle.model.specs.Weights.{total_weight}
use Rattle.compound.proofs.check.total_weight.Given as goal

abbrev pub invariant-loop-weight : goal.invariant-loop-weight
invariant-loop-weight l = record {
  capped : l.total ≤ 1001;
  whole : min (l.total + total_weight (drop l.weight-index l.weights)) 1001 ≡ min (total_weight l.weights) 1001;
}
