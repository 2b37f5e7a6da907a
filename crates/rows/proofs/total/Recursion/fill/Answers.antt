-- The answer of a total says whether it is the last.
use Rattle.std.proofs.Common.{◌≡◌, Err, ◌∙◌, rules}
use Rattle.rows.proofs.TotalByTotal.{at_first, at_ready, at_settled, at_next, same₀}
use Rattle.rows.proofs.TotalByTotal.{end_stop, end_filled, end_marks, fault_stop, fault_filled, fault_marks}
use Rattle.rows.proofs.total.Recursion.fill.Goals as goal

pub loop-x-init : goal.loop-x-init
loop-x-init c =
    let r = c.args.self.now in
    at_first r.job r.weights.now r.limits c.args.rows.now c.requires.room.0 c.requires.room.1

pub fill_total-requires-clause-ready : goal.fill_total-requires-clause-ready
fill_total-requires-clause-ready c =
    let r = c.args.self.now in
    at_ready r.job r.weights.now r.limits c.args.rows.now c.requires.room.0 c.requires.room.1 _ _ _ c.loop-x.invariant c.loop-x-test.true

pub fill_total-requires-clause-settled_rows : goal.fill_total-requires-clause-settled_rows
fill_total-requires-clause-settled_rows c =
    let r = c.args.self.now in
    at_settled r.job r.weights.now r.limits c.args.rows.now c.requires.room.0 c.requires.room.1 _ _ _ c.loop-x.invariant c.loop-x-test.true

pub returns-in_err-settled : goal.returns-in_err-settled
returns-in_err-settled c =
    let r = c.args.self.now in
    let room = c.requires.room in
    let step = c.fill_total.ensures in
    let here = c.loop-x.invariant in
    let answer = c.in_err-settled.ensures.answer in
    let returned : c.from_residual.result ≡ Err c.in_err-settled.field-0.0 = search rules in record {
      stop = returned ∙ fault_stop r.job r.weights.now r.limits c.args.rows.now room.0 room.1 _ _ _ here c.loop-x-test.true _
          step.same step.rows step.marks _ answer;
      same = same₀ r.job r.weights.now r.limits c.args.rows.now room.0 room.1 _ _ _ here c.loop-x-test.true _
          step.same step.rows step.marks;
      rows = fault_filled r.job r.weights.now r.limits c.args.rows.now room.0 room.1 _ _ _ here c.loop-x-test.true _
          step.same step.rows step.marks _ answer;
      marks = fault_marks r.job r.weights.now r.limits c.args.rows.now room.0 room.1 _ _ _ here c.loop-x-test.true _
          step.same step.rows step.marks _ answer;
    }

pub loop-x-preserved : goal.loop-x-preserved
loop-x-preserved c =
    let r = c.args.self.now in
    let step = c.fill_total.ensures in
    at_next r.job r.weights.now r.limits c.args.rows.now c.requires.room.0 c.requires.room.1 _ _ _ c.loop-x.invariant c.loop-x-test.true _
    step.same step.rows step.marks _ c.in_ok-settled.ensures.answer

pub returns : goal.returns
returns c =
    let r = c.args.self.now in
    let room = c.requires.room in
    let end = c.loop-x-test.false in
    let before = c.loop-x.auto.x-end in record {
      stop = end_stop r.job r.weights.now r.limits c.args.rows.now room.0 room.1 _ _ _ c.loop-x.invariant end before;
      same = c.loop-x.invariant.same;
      rows = end_filled r.job r.weights.now r.limits c.args.rows.now room.0 room.1 _ _ _ c.loop-x.invariant end before;
      marks = end_marks r.job r.weights.now r.limits c.args.rows.now room.0 room.1 _ _ _ c.loop-x.invariant end before;
    }
