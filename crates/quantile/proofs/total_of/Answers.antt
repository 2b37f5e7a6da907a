-- Where the search finds no total, the row's check refuses.
use mir.Facts.{to_z-of_z}
use Rattle.quantile.proofs.Steps.{found_is}
use Rattle.quantile.proofs.total_of.Goals as goal

pub returns : goal.returns
returns c =
    rw (c.ok_or.ensures.value, c.quantile_of.ensures, to_z-of_z c.ranges.level)
    (found_is c.args.row.entries.now c.args.level c.into.result c.args.short c.into.ensures)
