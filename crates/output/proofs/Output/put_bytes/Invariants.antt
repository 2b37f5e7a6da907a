-- The bytes passed are put.
use lib.ListN.{take}
use Rattle.output.specs.Output.{PutsInto}
use Rattle.output.proofs.Output.put_bytes.Given as goal

abbrev pub invariant-loop-b : goal.invariant-loop-b
invariant-loop-b l = PutsInto (take l.b-index l.bytes) l.initial.self l.self
