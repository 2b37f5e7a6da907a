-- Before each total the rows hold the curve below it and its marks, and what is known is known of the curve.
use Rattle.rows.proofs.TotalByTotal.{At}
use Rattle.rows.proofs.total.Recursion.fill.Given as goal

abbrev pub invariant-loop-x : goal.invariant-loop-x
invariant-loop-x l = At l.self.job l.self.weights.now l.fn.rows l.x l.rows l.settled
