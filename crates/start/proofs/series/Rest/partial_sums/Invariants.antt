-- After j turns the term is term j, and the sum that of the terms before it.
use mathlib.Core.Path.{◌≡◌}
use Prim.Native.Nat.{◌≤◌}
use Rattle.start.specs.Call.{term}
use Rattle.start.specs.Room.{sum_of_terms}
use Rattle.start.proofs.series.Rest.partial_sums.Given as goal

abbrev pub invariant-loop-j : goal.invariant-loop-j
invariant-loop-j l =
    let rest = l.self in
    (l.j ≤ 13) × (l.term.0 ≡ term rest.upper rest.lower l.j) × (l.sum ≡ sum_of_terms rest.upper rest.lower l.j)
