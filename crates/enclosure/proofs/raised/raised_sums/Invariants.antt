-- After i turns the sums are those over the last i severities of the run, and the line stands at the next.
use Rattle.std.proofs.Common.{◌≡◌, ◌-◌}
use Rattle.enclosure.specs.Term.{line_at, entries_of}
use Rattle.enclosure.specs.Run.{raised_sums}
use Rattle.enclosure.proofs.raised.raised_sums.Given as goal

abbrev pub invariant-loop-i : goal.invariant-loop-i
invariant-loop-i l = record {
  sums : l.sums ≡ raised_sums l.factor l.run.to (l.run.to - (l.run.to - l.i)) l.x l.weights (entries_of l.row);
  line : l.line ≡ line_at l.factor (l.run.to - l.i);
}
