-- The checks and the lows' own check are the call's list of conditions.
use mathlib.Core.Path.{◌≡◌, ◌∙◌}
use mir.Facts.{to_z-of_z}
use Rattle.std.proofs.Common.{rules, Err}
use Rattle.quantile.specs.Call.{sure_query}
use Rattle.quantile.proofs.Steps.{checks_refuse, row_decides}
use Rattle.quantile.proofs.sure.Goals as goal

pub returns-in_err-checked : goal.returns-in_err-checked
unfolding sure_query
returns-in_err-checked c =
    let rows = c.args.rows in
    let level = c.ranges.level in
    let is : c.from_residual.result ≡ Err c.in_err-checked.field-0.0 = search rules in
    rw is (checks_refuse rows.low.now 34 rows.low.now rows.high.now c.args.level _ (simp to_z-of_z at c.in_err-checked.ensures.answer))

pub returns : goal.returns
unfolding sure_query
returns c =
    let rows = c.args.rows in
    let level = c.ranges.level in
    let decides = row_decides rows.low.now 34 rows.low.now rows.high.now c.args.level (simp to_z-of_z at c.in_ok-checked.ensures.answer) in
    let same = c.in_ok-checked.ensures.same_rows in
    simp (to_z-of_z, same.0, same.1) at c.total_of.ensures ∙ decides
