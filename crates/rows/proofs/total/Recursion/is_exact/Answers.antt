-- A further row uses entries of the row before it.
use Rattle.std.proofs.Common.{ℕ, ◌-◌, sym, ap, ◌∙◌}
use Rattle.algebra.proofs.And.{and_yes}
use Rattle.rows.specs.Exact.{lows, highs, used_at}
use Rattle.rows.specs.Lent.{shared_entries, shared_marks}
use Rattle.rows.proofs.Recursion.{suc_pred}
use Rattle.rows.proofs.MarkRule.{used_next_lem}
use Rattle.rows.proofs.total.Recursion.is_exact.Goals as goal

pub returns : goal.returns
returns c =
    let r = c.args.self.now in
    let e = shared_entries c.args.rows.now in
    c.is_row_exact.ensures
    ∙ used_next_lem r.weights.now c.args.x (lows e) (highs e) (shared_marks c.args.rows.now) (c.args.row - 1)
    ∙ ap (λ (j : ℕ). used_at r.job.law r.weights.now (lows e) (highs e) (shared_marks c.args.rows.now) j c.args.x)
    (sym (suc_pred c.args.row c.if-row-eq0.false))
    ∙ and_yes _ _ c.if-not-divided.false
