-- The parts of the line are put one after the other.
use Prim.Native.Nat.{◌<◌, ◌^◌}
use native.Mathlib.Omega.{arith}
use Rattle.std.specs.Fmt as Fmt
use Rattle.text.specs.Lines.{spaced}
use Rattle.text.specs.Numbers.{decimal}
use Rattle.text.specs.LineText.{line_text}
use Rattle.output.specs.Output.{PutsInto}
use Rattle.output.proofs.Put.{◌and_then◌, nothing_put}
use Rattle.output.proofs.Printed.{digits_printed}
use Rattle.table.proofs.put_refusal.Goals as goal

pub returns : goal.returns
unfolding line_text spaced decimal
returns g c =
    let number : c.number.result < 2 ^ 64 = omega arith in
    let place : c.args.refusal.place < 2 ^ 64 = omega arith in
    let number_put : PutsInto (Fmt.decimal c.number.result) _ _ = c.put_number.ensures in
    c.put_bytes.ensures
    and_then ((rw (digits_printed _ number, c.number.ensures) at number_put)
    and_then (rw (digits_printed _ place) at c.put_next.ensures)
    and_then nothing_put)
    and_then c.put_byte.ensures
