-- The loop's invariant: `saved` is the sum of saving times entry below this total. It begins at the attachment, where that is the width
-- times the sum of the entries.
use mathlib.Core.Path.{◌≡◌}
use Prim.Native.Nat.{◌+◌}
use Rattle.layer.proofs.Sizes.{saved_before}
use Rattle.layer.proofs.cost.Layer.cost.Given as goal

abbrev pub invariant-loop-past : goal.invariant-loop-past
invariant-loop-past l =
    l.saved ≡ saved_before l.row.entries.now l.fn.self.attachment l.fn.self.limit (l.fn.self.attachment + l.past)
