-- The place that is found is that of 33; rows where none is found are summable.
use mathlib.Core.Path.{◌≡◌}
use mathlib.Core.Bool.{false}
use mathlib.Core.List.{List}
use lib.IntN.{ℤ}
use lib.ListN.{length}
use Rattle.std.proofs.Common.{None}
use Rattle.intervals.specs.Checks.{wrong_lengths, first_wrong_entry}
use Rattle.intervals.proofs.FirstWrong.{found_refuses, none_holds, none_accepts}
use Rattle.intervals.proofs.Passed.{Passed, passed, same_length}
use Rattle.intervals.proofs.Intervals.check_entries.Goals as goal

rows_passed : (low high : List ℤ) → wrong_lengths (length low) (length high) ≡ false → None ≡ first_wrong_entry low high → Passed low high
rows_passed low high lengths none = passed low high lengths (none_holds 33 low high (same_length _ _ lengths) none)

pub returns-in-Some-clause-answer : goal.returns-in-Some-clause-answer
returns-in-Some-clause-answer g c =
    let rows = c.args.self in
    found_refuses (g.R.Numbered.number_of c.args.reason) rows.low.now rows.high.now (same_length _ _ c.requires) _ c.in-Some.ensures

pub returns-in-None-clause-answer : goal.returns-in-None-clause-answer
returns-in-None-clause-answer g c =
    let rows = c.args.self in
    none_accepts (g.R.Numbered.number_of c.args.reason) rows.low.now rows.high.now (same_length _ _ c.requires) c.in-None.ensures

pub invariant_of-result : goal.invariant_of-result
invariant_of-result g c =
    let rows = rows_passed c.args.self.low.now c.args.self.high.now c.requires c.in-None.ensures in
    record { summable = search (rows.low_summable, rows.high_summable) }

pub invariant_of-result-in-None : goal.invariant_of-result-in-None
invariant_of-result-in-None g c =
    let rows = rows_passed c.args.self.low.now c.args.self.high.now c.requires c.in-None.ensures in
    record { summable = search (rows.low_summable, rows.high_summable) }
