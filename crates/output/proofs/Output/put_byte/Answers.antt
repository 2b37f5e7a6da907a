-- By whether the row has a place for the byte.
use Rattle.std.proofs.Common.{refl}
use Rattle.output.proofs.Put.{put_here, put_past}
use Rattle.output.proofs.Output.put_byte.Goals as goal

pub returns-then-self : goal.returns-then-self
returns-then-self c = record { is_put = put_here _ _ _ c.if-self.true; same_row = refl }

pub returns-else-self : goal.returns-else-self
returns-else-self c = record { is_put = put_past _ _ _ c.if-self.false; same_row = refl }
