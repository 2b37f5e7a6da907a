-- Before each row the rows below it are put with their marks, and their faults and what is known are noted.
use Rattle.rows.proofs.RowByRow.{Put, Noted}
use Rattle.rows.proofs.total.Recursion.fill_total.Given as goal

abbrev pub invariant-loop-row : goal.invariant-loop-row
invariant-loop-row l = record {
  put : Put l.self.job l.self.weights.now l.x l.row l.fn.rows l.rows;
  noted : Noted l.self.job l.self.weights.now l.x l.row l.fn.rows l.settled l.range l.bound l.next;
}
