-- The space and the number are put one after the other.
use Rattle.output.proofs.Put.{◌and_then◌}
use Rattle.output.proofs.Output.put_next.Goals as goal

pub returns : goal.returns
returns g c = c.put_byte.ensures and_then c.put_number.ensures
