-- After j turns the term is term j, and the sum that of the terms before it. After 13 the low lacks term 13, which is odd.
use borrow.Author.Rules.{rules}
use mathlib.Core.Path.{◌≡◌, refl, ◌∙◌, ap}
use Prim.Native.Nat.{ℕ, ◌≤◌, ◌<◌}
use native.Mathlib.Numerals.{add-one}
use mir.Syntax.{w64}
use mir.Val.{to_z, of_z}
use mir.Facts.{to_z-of_z}
use Rattle.algebra.specs.Sum.{accumulate}
use Rattle.outward.specs.declared.Interval.{Interval}
use Rattle.start.specs.Call.{term, series}
use Rattle.start.specs.Room.{plus_part, sum_of_terms}
use Rattle.start.proofs.Sizes.{ends_of}
use Rattle.start.proofs.Summed.{series_in_unit}
use Rattle.start.proofs.Terms.{term_in_unit, sum_room, plus_part_lem}
use Rattle.start.proofs.series.Rest.partial_sums.Goals as goal

pub loop-j-init : goal.loop-j-init
unfolding term sum_of_terms accumulate
loop-j-init c = (search rules, refl, refl)

pub add_part-sum-requires : goal.add_part-sum-requires
add_part-sum-requires c =
    let (turns, last, sum) = c.loop-j.invariant in
    let rest = c.args.self in
    rw sum (sum_room _ _ rest.below rest.lower_most c.loop-j.j turns)

pub invariant_of-term : goal.invariant_of-term
invariant_of-term c =
    let (turns, last, sum) = c.loop-j.invariant in
    let rest = c.args.self in
    record { in_unit = rw last (term_in_unit _ _ rest.below rest.lower_most c.loop-j.j turns) }

pub loop-j-preserved : goal.loop-j-preserved
unfolding term
loop-j-preserved c =
    let (turns, last, sum) = c.loop-j.invariant in
    let rest = c.args.self in (
      search rules,
      rw (add-one c.loop-j.j) (rw (add-one c.loop-j.j, last) at c.next_term-term.ensures),
      rw (add-one c.loop-j.j) ((rw (last, sum) at c.add_part-sum.ensures) ∙ plus_part_lem _ _ rest.below rest.lower_most c.loop-j.j),
    )

-- ---- after 13 turns
pub add_part-requires : goal.add_part-requires
add_part-requires c =
    let (turns, last, sum) = c.loop-j.invariant in
    let rest = c.args.self in
    rw sum (sum_room _ _ rest.below rest.lower_most c.loop-j.j turns)

pub invariant_of-term-2 : goal.invariant_of-term-2
invariant_of-term-2 c =
    let (turns, last, sum) = c.loop-j.invariant in
    let rest = c.args.self in
    record { in_unit = rw last (term_in_unit _ _ rest.below rest.lower_most c.loop-j.j turns) }

module _ (q s : ℕ) (qs : q < s) (s_most : s ≤ 1000) (last sum part : Interval) where
  sums_are : last ≡ term q s 13 → sum ≡ sum_of_terms q s 13 → part ≡ plus_part 13 last sum
      → (part.low ≡ (series q s).low) × (sum.high ≡ (series q s).high)
  unfolding series sum_of_terms
  sums_are t u e =
      let whole : part ≡ sum_of_terms q s 14 = e ∙ rw (t, u) (plus_part_lem q s qs s_most 13) in
      (ap (λ (i : Interval). i.low) whole, ap (λ (i : Interval). i.high) u)

  ends_are : {j : ℕ} → j ≡ 13 → (j ≤ 13) × (last ≡ term q s j) × (sum ≡ sum_of_terms q s j) → part ≡ plus_part 13 last sum
      → ◌≡◌ {A = Interval} (record { low = to_z w64 (of_z w64 part.low); high = to_z w64 (of_z w64 sum.high) }) (series q s)
  ends_are all (turns, t, u) e =
      let fit = ends_of (series q s) (series_in_unit q s qs s_most) in
      let (low, high) = sums_are (rw all at t) (rw all at u) e in
      rw (low, high, to_z-of_z fit.low_fits, to_z-of_z fit.high_fits) refl

pub returns : goal.returns
returns c =
    let rest = c.args.self in
    let all : c.loop-j.j ≡ 13 = search rules in
    ends_are _ _ rest.below rest.lower_most _ _ _ all c.loop-j.invariant c.add_part.ensures

pub invariant_of-result : goal.invariant_of-result
invariant_of-result c =
    let rest = c.args.self in
    let all : c.loop-j.j ≡ 13 = search rules in
    let e = ends_are _ _ rest.below rest.lower_most _ _ _ all c.loop-j.invariant c.add_part.ensures in
    record { in_unit = rw e (series_in_unit _ _ rest.below rest.lower_most) }
