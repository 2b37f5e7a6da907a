-- After so many turns the costs of the first layers are written over the first places.
use mathlib.Core.Path.{◌≡◌}
use lib.ListN.{length}
use Rattle.algebra.specs.Slice.{listed, written}
use Rattle.layer.specs.Layer.{cost_by}
use Rattle.layer.specs.Call.{attachment, limit}
use Rattle.layer.proofs.cost.write_costs.Given as goal

abbrev pub invariant-loop-place : goal.invariant-loop-place
invariant-loop-place l =
    (goal.iterator-loop-place).can_next l.place-iterator
    × (goal.iterator-loop-place).is_finite l.place-iterator
    × (l.answer ≡ written (listed (λ k. cost_by l.row.entries.now (attachment l.list k) (limit l.list k)) (length l.yielded))
    l.initial.answer)
