-- The loop's invariant: `sum` is the sum of the entries so far.
use mathlib.Core.Path.{refl}
use Prim.Native.Nat.{◌<◌}
use native.Mathlib.Omega.{arith}
use native.Mathlib.Numerals.{add-one}
use lib.IntN.{pos}
use lib.ListN.{length-take}
use Rattle.std.proofs.lemmas.List.{get_or-take}
use Rattle.algebra.specs.Sum.{accumulate}
use Rattle.intervals.proofs.Sums.{next_sum_fits, next_sum_held}
use Rattle.layer.proofs.cost.sum_below.Goals as goal

pub loop-entry-init : goal.loop-entry-init
unfolding accumulate
loop-entry-init c = refl

pub overflow_add-sum : goal.overflow_add-sum
overflow_add-sum c =
    let row = c.args.row.entries.now in
    let x = c.loop-entry.entry-index in
    let l : x < c.args.total = omega (arith, c.loop-entry-test.true, length-take c.args.total row) in
    next_sum_fits row c.args.row.summable x (omega (arith, l, c.requires)) c.loop-entry.invariant (get_or-take c.args.total row x (pos 0) l)

pub loop-entry-preserved : goal.loop-entry-preserved
loop-entry-preserved c =
    let row = c.args.row.entries.now in
    let x = c.loop-entry.entry-index in
    let l : x < c.args.total = omega (arith, c.loop-entry-test.true, length-take c.args.total row) in
    rw add-one
    (next_sum_held row c.args.row.summable x (omega (arith, l, c.requires)) c.loop-entry.invariant
    (get_or-take c.args.total row x (pos 0) l))
