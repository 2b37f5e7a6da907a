-- The remainder's bits are zero where the remainder is.
use mir.Facts.{to_z-of_z}
use Rattle.outward.proofs.Truncation.{remainder_test}
use Rattle.outward.proofs.is_multiple.Goals as goal

pub returns : goal.returns
returns c = rw (to_z-of_z c.ranges.n) (remainder_test c.requires c.ranges.n)
