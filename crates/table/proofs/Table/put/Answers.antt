-- Behind the heading, the lines of the totals passed are put, and then one more.
use mathlib.Core.Path.{◌≡◌}
use native.Mathlib.Omega.{arith}
use native.Mathlib.Numerals.{add-one}
use Rattle.output.proofs.Put.{◌and_then◌, nothing_put}
use Rattle.table.specs.Lines.{total_lines}
use Rattle.table.proofs.Table.put.Goals as goal

pub loop-total-init : goal.loop-total-init
unfolding total_lines
loop-total-init c = nothing_put

pub loop-total-preserved : goal.loop-total-preserved
unfolding total_lines
loop-total-preserved c = rw add-one (c.loop-total.invariant and_then c.put_total.ensures)

pub returns : goal.returns
returns c =
    let all : c.loop-total.total ≡ c.args.self.now.totals = omega arith in
    rw all at (c.put_bytes.ensures and_then c.loop-total.invariant)
