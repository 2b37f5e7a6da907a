-- The bytes passed are put, and then one more.
use Prim.Native.Nat.{ℕ, ◌<◌}
use native.Mathlib.Omega.{arith}
use native.Mathlib.Numerals.{add-one}
use lib.ListN.{length}
use lib.Seq.{take-suc}
use Rattle.output.proofs.Put.{◌and_then◌, nothing_put}
use Rattle.output.proofs.Output.put_bytes.Goals as goal

pub loop-b-init : goal.loop-b-init
loop-b-init c = nothing_put

pub loop-b-preserved : goal.loop-b-preserved
loop-b-preserved c =
    let h : c.loop-b.b-index < length c.args.bytes.now = omega arith in
    rw (add-one, take-suc {A = ℕ} _ c.loop-b.b-index 0) (c.loop-b.invariant and_then c.put_byte.ensures)
