-- The parts of the line are put one after the other.
use native.Mathlib.Omega.{arith}
use mir.Syntax.{w64}
use mir.Val.{SFits}
use mir.Facts.{to_z-of_z}
use Rattle.text.specs.Lines.{spaced}
use Rattle.text.specs.Numbers.{decimal}
use Rattle.output.proofs.Put.{◌and_then◌, nothing_put}
use Rattle.output.proofs.Printed.{digits_printed}
use Rattle.table.specs.Lines.{at}
use Rattle.table.proofs.Words.{further}
use Rattle.table.proofs.Table.put_total.Goals as goal

pub returns : goal.returns
unfolding spaced decimal
returns c =
    let rows = c.args.self.now in
    let x = c.args.total in
    let low : SFits w64 (at rows.low.now x) = record { sfits = omega arith } in
    let high : SFits w64 (at rows.high.now x) = record { sfits = omega arith } in
    let bound : SFits w64 (at rows.bound.now x) = record { sfits = omega arith } in
    let mark : SFits w64 (at rows.mark.now x) = record { sfits = omega arith } in
    ((rw (digits_printed x (omega arith)) at c.put_number.ensures)
    and_then ((further _ low c.put_next.ensures
    and_then further _ high c.put_next-2.ensures
    and_then further _ bound c.put_next-3.ensures
    and_then nothing_put)
    and_then (c.put_byte.ensures and_then (rw (c.letter.ensures, to_z-of_z mark) at c.put_byte-2.ensures))))
    and_then c.put_byte-3.ensures
