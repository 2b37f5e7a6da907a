-- By the curve's answer: an acceptance leaves rows that are long enough for the table, and the text is theirs; any other answer is a
-- refusal, and the text is its line.
use Rattle.std.proofs.Common.{rules, arith, ◌≡◌, ℕ, ◌≤◌, List, false, sym, ap}
use lib.Dec.{eqb}
use Rattle.model.specs.declared.Job.{Job}
use Rattle.model.specs.Answer.{accepted, refused}
use Rattle.model.specs.Limits.{most_last}
use Rattle.compound.specs.Lent.{Lent}
use Rattle.compound.specs.Call.{number_of, curve_answer, curve_lent}
use Rattle.compound.proofs.Returned.{reason_refuses}
use Rattle.compound.proofs.Accepted.{limits}
use Rattle.table.specs.Lines.{refusal_line}
use Rattle.report.specs.Report.{program_rows, rows_text, curve_text}
use Rattle.report.proofs.put_curve.Goals as goal

accepted_text : (job : Job) (weights : List ℕ) (rows : Lent) → accepted ≡ curve_answer job weights program_rows
    → rows ≡ curve_lent job weights program_rows → curve_text job weights ≡ rows_text job rows
unfolding curve_text
accepted_text job weights rows e h = rw (sym e) (ap (rows_text job) (sym h))

refused_text : (job : Job) (weights : List ℕ) (number place : ℕ) → eqb number 0 ≡ false
    → refused number place ≡ curve_answer job weights program_rows → curve_text job weights ≡ refusal_line (refused number place)
unfolding curve_text
refused_text job weights number place n e = rw (sym e, n)

few : (job : Job) (weights : List ℕ) → accepted ≡ curve_answer job weights program_rows → job.last ≤ most_last
few job weights e = (limits job weights program_rows (sym e)).last_most

pub overflow_add-table : goal.overflow_add-table
overflow_add-table c = let h = few _ _ c.in-Ok.ensures.answer in search rules

pub invariant_of-table : goal.invariant_of-table
invariant_of-table c =
    let h = few _ _ c.in-Ok.ensures.answer in
    record {
      long_enough = record {
        lows = omega (arith, h);
        highs = omega (arith, h);
        bounds = omega (arith, h);
        marks = omega (arith, h);
      };
    }

pub returns-in-Ok : goal.returns-in-Ok
returns-in-Ok c =
    let text = accepted_text c.args.job c.args.weights.now _ c.in-Ok.ensures.answer c.in-Ok.ensures.rows in
    let put = c.put.ensures in
    search (rules, put, text)

pub returns-in-Err : goal.returns-in-Err
returns-in-Err c =
    let reason = c.in-Err.refusal.reason in
    rw (refused_text c.args.job c.args.weights.now (number_of reason) _ (reason_refuses reason) c.in-Err.ensures.answer) c.put_refusal.ensures
