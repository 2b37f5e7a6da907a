-- Each step answers for its part of the list; behind the last of them the list is that of the layers.
use mathlib.Core.Path.{◌≡◌, ◌∙◌}
use Rattle.std.proofs.Common.{rules, Err}
use Rattle.layer.proofs.Passed.{counted}
use Rattle.layer.proofs.Returned.{lengths_refuse, right_lengths, entries_refuse, count_refuses, right_count, layers_last}
use Rattle.layer.proofs.check.checked.Goals as goal

pub returns-in_err-check_lengths-clause-answer : goal.returns-in_err-check_lengths-clause-answer
returns-in_err-check_lengths-clause-answer c =
    let a = c.args in
    let is : c.from_residual.result ≡ Err c.in_err-check_lengths.field-0.0 = search rules in
    rw is (lengths_refuse a.rows.low.now a.rows.high.now a.list.now a.low_places a.high_places _ _ c.in_err-check_lengths.ensures)

pub check_entries-requires : goal.check_entries-requires
check_entries-requires c =
    let a = c.args in
    right_lengths a.rows.low.now a.rows.high.now a.list.now a.low_places a.high_places c.in_ok-check_lengths.ensures

pub returns-in_err-checked-clause-answer : goal.returns-in_err-checked-clause-answer
returns-in_err-checked-clause-answer c =
    let a = c.args in
    let is : c.from_residual-in_err-checked.result ≡ Err c.in_err-checked.field-0.0 = search rules in
    rw is (entries_refuse a.rows.low.now a.rows.high.now a.list.now a.low_places a.high_places c.in_ok-check_lengths.ensures _ _
    c.in_err-checked.ensures.answer)

pub returns-in_err-check_count-clause-answer : goal.returns-in_err-check_count-clause-answer
returns-in_err-check_count-clause-answer c =
    let a = c.args in
    let is : c.from_residual-in_err-check_count.result ≡ Err c.in_err-check_count.field-0.0 = search rules in
    rw is (count_refuses a.rows.low.now a.rows.high.now a.list.now a.low_places a.high_places c.in_ok-check_lengths.ensures
    c.in_ok-checked.ensures.answer _ _ c.in_err-check_count.ensures)

-- 62 and 63, layer by layer
pub check_layers-requires : goal.check_layers-requires
check_layers-requires c =
    let a = c.args in
    (counted _ _ _ (right_count a.rows.low.now a.rows.high.now a.list.now a.low_places a.high_places c.in_ok-check_lengths.ensures
    c.in_ok-checked.ensures.answer c.in_ok-check_count.ensures)).most

pub returns-in_err-check_layers-clause-answer : goal.returns-in_err-check_layers-clause-answer
returns-in_err-check_layers-clause-answer c =
    let a = c.args in
    let is : c.from_residual-in_err-check_layers.result ≡ Err c.in_err-check_layers.field-0.0 = search rules in
    rw is (c.in_err-check_layers.ensures ∙ layers_last a.rows.low.now a.rows.high.now a.list.now a.low_places a.high_places
    c.in_ok-check_lengths.ensures c.in_ok-checked.ensures.answer c.in_ok-check_count.ensures)

pub returns-clause-answer : goal.returns-clause-answer
returns-clause-answer c =
    let a = c.args in
    c.in_ok-check_layers.ensures ∙ layers_last a.rows.low.now a.rows.high.now a.list.now a.low_places a.high_places
    c.in_ok-check_lengths.ensures c.in_ok-checked.ensures.answer c.in_ok-check_count.ensures
