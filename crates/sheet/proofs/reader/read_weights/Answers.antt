-- One weight more stands in the row, and one line fewer is due.
use mathlib.Core.Path.{◌∙◌}
use native.Mathlib.Numerals.{add-one}
use native.Mathlib.Omega.{arith}
use lib.ListN.{length, length-set}
use lib.Seq.{take-suc-set}
use Rattle.text.proofs.Scan.{one_fewer}
use Rattle.grammar.specs.Reading.{weight_lines}
use Rattle.sheet.proofs.reader.read_weights.Goals as goal

pub loop-weight-preserved : goal.loop-weight-preserved
unfolding weight_lines
loop-weight-preserved c job =
    let row = c.loop-weight.row in
    let i = c.loop-weight.weight-index in
    let line = c.in_ok-weight.ensures in
    c.loop-weight.invariant job
    ∙ rw (one_fewer (length row) i (omega arith), line.read, line.line, length-set, add-one i, take-suc-set row i _ (omega arith))
