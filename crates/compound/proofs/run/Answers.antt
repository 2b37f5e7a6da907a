-- By where the rows stopped; `Returned` has what each end returns.
use Rattle.std.proofs.Common.{sym, ◌∙◌}
use Rattle.compound.specs.Lent.{lent_in}
use Rattle.compound.proofs.Returned.{fault_answer, fault_rows, end_answer, end_rows}
use Rattle.compound.proofs.run.Goals as goal

pub returns-in-Err-clause-answer : goal.returns-in-Err-clause-answer
returns-in-Err-clause-answer c =
    let r = c.args.recursion.now in
    rw c.into.ensures (fault_answer r.job r.weights.now c.in-Err.stop (sym c.in-Err.is ∙ c.fill-filled.ensures.stop))

pub returns-in-Err-clause-rows : goal.returns-in-Err-clause-rows
returns-in-Err-clause-rows c =
    let r = c.args.recursion.now in
    let rows = c.fill-filled.ensures in
    fault_rows r.job r.weights.now (lent_in c.args.rows.now) (lent_in c.fill-filled.new.rows) rows.rows rows.marks
    c.fill-filled.new.rows.places (rows.same.places ∙ c.requires.1) _ c.clear.ensures c.in-Err.stop (sym c.in-Err.is ∙ rows.stop) _ _ _ _
    c.clear-in-Err.ensures c.clear-in-Err-2.ensures c.clear-in-Err-3.ensures c.clear-in-Err-4.ensures

pub returns-clause-answer : goal.returns-clause-answer
returns-clause-answer c =
    let r = c.args.recursion.now in
    end_answer r.job r.weights.now (sym c.in_default.is ∙ c.fill-filled.ensures.stop)

pub returns-clause-rows : goal.returns-clause-rows
returns-clause-rows c =
    let r = c.args.recursion.now in
    let rows = c.fill-filled.ensures in
    let room = c.requires.0 in
    end_rows r.job r.weights.now (lent_in c.args.rows.now) (lent_in c.fill-filled.new.rows) rows.rows rows.marks
    c.fill-filled.new.rows.places (rows.same.places ∙ c.requires.1) _ c.clear.ensures
    (record { entries = rw c.requires.1 at room.entries.long; mark_long = rw c.requires.1 at room.marks.mark_long })
    r.limits.law.order_least (sym c.in_default.is ∙ rows.stop)
