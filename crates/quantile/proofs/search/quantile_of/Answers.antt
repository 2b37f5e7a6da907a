-- The loop's invariant: `sum` is the sum of the entries below x, and no running sum before x reaches the level.
use borrow.Author.Rules.{rules}
use borrow.Author.Tests.{eq-eqb, ne_eqb}
use mathlib.Core.Path.{◌≡◌, refl}
use mathlib.Core.Bool.{true, false}
use mathlib.Core.List.{List}
use Prim.Native.Nat.{ℕ, ◌<◌}
use native.Mathlib.Omega.{arith}
use native.Mathlib.Numerals.{add-one}
use lib.Signed.{le_z}
use lib.IntN.{ℤ}
use lib.ListN.{length}
use mir.Facts.{to_z-of_z}
use Rattle.std.proofs.Common.{Some, None}
use Rattle.std.proofs.lemmas.Int.{ints}
use Rattle.algebra.specs.Sum.{accumulate}
use Rattle.algebra.proofs.Smallest.{searched_none, searched_next, searched_found, searched_all}
use Rattle.intervals.proofs.Sums.{next_sum_fits, next_sum_held}
use Rattle.quantile.specs.Call.{running_sum, quantile_of, total_found}
use Rattle.quantile.proofs.search.quantile_of.Goals as goal

-- the answer, where the search stops at x and where it comes to the row's end
module _ (row : List ℤ) (level : ℤ) where
  found : {x : ℕ} → x < length row → quantile_of row level ≡ x → Some x ≡ total_found row level
  found {x} l is = rw (is, ne_eqb x (length row) (λ same. omega (arith, same, l)))

  not_found : quantile_of row level ≡ length row → None ≡ total_found row level
  not_found is = rw (is, eq-eqb (length row) (length row) refl)

pub loop-x-init : goal.loop-x-init
unfolding accumulate
loop-x-init c = (refl, searched_none)

pub overflow_add-sum : goal.overflow_add-sum
overflow_add-sum c = next_sum_fits c.args.row.entries.now c.args.row.summable c.loop-x.x (search rules) c.loop-x.invariant.0 refl

pub returns-then-level-sum : goal.returns-then-level-sum
unfolding quantile_of
returns-then-level-sum c =
    let row = c.args.row.entries.now in
    let level = c.ranges.level in
    let l : c.loop-x.x < length row = search rules in
    let is = next_sum_held row c.args.row.summable c.loop-x.x l c.loop-x.invariant.0 refl in
    let test = rw (is, to_z-of_z level) at c.if-level-sum.true in
    let reached : le_z c.args.level (running_sum row c.loop-x.x) ≡ true = grind (arith, ints) in
    found row c.args.level l (searched_found (simp to_z-of_z at c.loop-x.invariant.1) reached)

pub loop-x-preserved : goal.loop-x-preserved
loop-x-preserved c =
    let row = c.args.row.entries.now in
    let level = c.ranges.level in
    let is = next_sum_held row c.args.row.summable c.loop-x.x (search rules) c.loop-x.invariant.0 refl in
    let test = rw (is, to_z-of_z level) at c.if-level-sum.false in
    let fails : le_z c.args.level (running_sum row c.loop-x.x) ≡ false = grind (arith, ints) in
    (rw (is, add-one), rw (to_z-of_z level) (searched_next (simp to_z-of_z at c.loop-x.invariant.1) (search rules) fails))

pub returns : goal.returns
unfolding quantile_of
returns c =
    let level = c.ranges.level in
    not_found c.args.row.entries.now c.args.level (simp to_z-of_z at (searched_all c.loop-x.invariant.1 (search rules)))
