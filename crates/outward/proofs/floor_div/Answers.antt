-- The quotient and the remainder's sign, from their bits.
use Rattle.outward.proofs.Truncation.{floor_held}
use Rattle.outward.proofs.floor_div.Goals as goal

pub returns : goal.returns
returns c = floor_held c.requires c.ranges.n c.from.ensures
