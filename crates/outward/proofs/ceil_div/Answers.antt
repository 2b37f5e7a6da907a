-- The quotient and the remainder's sign, from their bits.
use Rattle.outward.proofs.Truncation.{ceil_held}
use Rattle.outward.proofs.ceil_div.Goals as goal

pub returns : goal.returns
returns c = ceil_held c.requires c.ranges.n c.from.ensures
