-- The checks come first, and their acceptance has room for the rows; `Returned` has what the call returns by how far it came.
use Rattle.std.proofs.Common.{rules, arith, ◌≡◌, ◌+◌, ◌∙◌, ap, sym, subst, List, ℕ, []}
use Rattle.model.specs.declared.Job.{Job}
use Rattle.model.specs.Answer.{first_refusal}
use Rattle.compound.specs.Lent.{lent_of, lent_in}
use Rattle.compound.specs.Call.{paper, faults, ran, curve_lent}
use Rattle.compound.proofs.Call.{checked_limits}
use Rattle.compound.proofs.Returned.{early_answer, early_rows, late_answer, late_rows}
use Rattle.compound.proofs.curve.Goals as goal

pub returns-in_err-recursion-clause-answer : goal.returns-in_err-recursion-clause-answer
returns-in_err-recursion-clause-answer c =
    early_answer c.args.job c.args.weights.now (lent_of c.args.lent.now) c.from_residual.result c.in_err-recursion.field-0.0 (search rules)
    c.in_err-recursion.ensures.answer

pub returns-in_err-recursion-clause-rows : goal.returns-in_err-recursion-clause-rows
returns-in_err-recursion-clause-rows c =
    early_rows c.args.job c.args.weights.now (lent_of c.args.lent.now) c.in_err-recursion.field-0.0 c.in_err-recursion.ensures.answer

pub run-requires : goal.run-requires
run-requires c =
    let checked = checked_limits c.args.job c.args.weights.now (lent_of c.args.lent.now) [] (sym c.in_ok-recursion.ensures.answer) in
    let most = checked.0.last_most in
    let long = checked.1 in (
      record {
        entries = record { places_most = omega (arith, most); long = long.entries };
        marks = record { places_most = omega (arith, most); mark_long = long.mark_long; work_long = long.entries.work_long };
      },
      ap (λ (job : Job). job.last + 1) (sym c.in_ok-recursion.ensures.recursion.0),
    )

-- the recursion that the checks hand on is that of the job and its weights
of_job : {job job' : Job} {weights weights' : List ℕ} (P : Job → List ℕ → Type 0) → (job' ≡ job) × (weights' ≡ weights)
    → P job' weights' → P job weights
of_job {job = job} {weights' = weights'} P e p = subst (λ (w : List ℕ). P job w) e.1 (subst (λ (j : Job). P j weights') e.0 p)

pub returns-clause-answer : goal.returns-clause-answer
returns-clause-answer c =
    of_job (λ job weights. paper c.run.result ≡ first_refusal (faults job weights)) c.in_ok-recursion.ensures.recursion c.run.ensures.answer
    ∙ late_answer c.args.job c.args.weights.now (lent_of c.args.lent.now) c.in_ok-recursion.ensures.answer

pub returns-clause-rows : goal.returns-clause-rows
returns-clause-rows c =
    let rows : lent_in c.run.new.rows ≡ curve_lent c.args.job c.args.weights.now (lent_of c.args.lent.now) =
    of_job (λ job weights. lent_in c.run.new.rows ≡ ran job weights (lent_of c.args.lent.now)) c.in_ok-recursion.ensures.recursion c.run.ensures.rows
    ∙ late_rows c.args.job c.args.weights.now (lent_of c.args.lent.now) c.in_ok-recursion.ensures.answer in
    search (rules, rows)
