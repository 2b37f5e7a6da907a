-- A further row's sums are those of one term.
use Rattle.std.proofs.Common.{sym, ap, ◌∙◌, ◌-◌, ℕ, arith}
use Rattle.rows.specs.Lent.{shared_entries}
use Rattle.rows.proofs.Sums.{ready_in, next_is, next_room}
use Rattle.rows.proofs.Recursion.{suc_pred}
use Rattle.rows.specs.Curve.{sums_at}
use Rattle.rows.proofs.total.Recursion.sums_at.Goals as goal

pub add_row-requires-clause-term_room : goal.add_row-requires-clause-term_room
add_row-requires-clause-term_room c =
    let r = c.args.self.now in
    next_room _ _ _ _ (ready_in r.limits c.requires.0).basis _ (omega arith)

pub returns : goal.returns
returns c =
    let r = c.args.self.now in
    c.add_row.ensures
    ∙ next_is r.weights.now c.args.x _ (c.args.row - 1)
    ∙ ap (λ (j : ℕ). sums_at r.job.law r.weights.now (shared_entries c.args.rows.now) j c.args.x) (sym (suc_pred c.args.row c.if-row-eq0.false))
