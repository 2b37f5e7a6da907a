-- Each step answers for a condition of the list.
use mathlib.Core.Path.{◌≡◌, ◌∙◌}
use Rattle.std.proofs.Common.{rules, Err}
use mir.Facts.{to_z-of_z}
use Rattle.quantile.proofs.Steps.{lengths_refuse, lengths_right, level_refuses, entries_last}
use Rattle.quantile.proofs.check.checked.Goals as goal

pub returns-in_err-check_lengths-clause-answer : goal.returns-in_err-check_lengths-clause-answer
returns-in_err-check_lengths-clause-answer c =
    let rows = c.args.rows in
    let is : c.from_residual.result ≡ Err c.in_err-check_lengths.field-0.0 = search rules in
    rw is (lengths_refuse rows.low.now rows.high.now c.args.level _ _ c.in_err-check_lengths.ensures)

pub returns-in_err-check_level-clause-answer : goal.returns-in_err-check_level-clause-answer
returns-in_err-check_level-clause-answer c =
    let rows = c.args.rows in
    let level = c.ranges.level in
    let is : c.from_residual-in_err-check_level.result ≡ Err c.in_err-check_level.field-0.0 = search rules in
    rw is (level_refuses rows.low.now rows.high.now c.args.level _ _ c.in_ok-check_lengths.ensures
    (simp to_z-of_z at c.in_err-check_level.ensures))

pub check_entries-requires : goal.check_entries-requires
check_entries-requires c = lengths_right c.args.rows.low.now c.args.rows.high.now c.args.level c.in_ok-check_lengths.ensures

pub returns-clause-answer : goal.returns-clause-answer
returns-clause-answer c =
    let rows = c.args.rows in
    let level = c.ranges.level in
    c.check_entries.ensures.answer
    ∙ entries_last rows.low.now rows.high.now c.args.level c.in_ok-check_lengths.ensures (simp to_z-of_z at c.in_ok-check_level.ensures)
