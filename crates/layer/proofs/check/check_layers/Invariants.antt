-- The loop's invariant: no layer before this one is at fault, so the answer is that of the layers from here on.
use mathlib.Core.Path.{◌≡◌}
use Prim.Native.Nat.{◌-◌}
use lib.ListN.{length}
use Rattle.model.specs.Answer.{first_refusal}
use Rattle.layer.specs.Call.{layer_checks}
use Rattle.layer.proofs.check.check_layers.Given as goal

abbrev pub invariant-loop-place : goal.invariant-loop-place
invariant-loop-place l =
    (goal.iterator-loop-place).can_next l.place-iterator
    × (goal.iterator-loop-place).is_finite l.place-iterator
    × (first_refusal (layer_checks l.places l.list.attachments l.list.limits l.list.count 0)
    ≡ first_refusal (layer_checks l.places l.list.attachments l.list.limits (l.list.count - length l.yielded) (length l.yielded)))
