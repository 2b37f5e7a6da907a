-- After i terms the sums are those of the definition's first i terms.
use Rattle.std.proofs.Common.{◌≡◌}
use Rattle.rows.specs.Lent.{shared_entries}
use Rattle.rows.specs.Progress.{term_factor}
use Rattle.rows.proofs.Sums.{terms_below}
use Rattle.rows.proofs.total.Recursion.sums_zero.Given as goal

abbrev pub invariant-loop-i : goal.invariant-loop-i
invariant-loop-i l =
    l.sums ≡ terms_below (term_factor l.self.job.law.a l.self.job.law.b l.x) l.self.weights.now l.x (shared_entries l.rows) l.i
