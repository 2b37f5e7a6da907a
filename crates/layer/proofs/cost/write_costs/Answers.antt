-- After so many turns the costs of the first layers are written over the first places.
use borrow.Author.Rules.{rules}
use mathlib.Core.Path.{◌≡◌, refl, sym, ◌∙◌, ap}
use mathlib.Core.List.{List}
use Prim.Native.Nat.{ℕ, ◌+◌, ◌<◌}
use native.Mathlib.Omega.{arith}
use lib.IntN.{ℤ}
use lib.ListN.{length, set}
use mir.Syntax.{w64}
use Rattle.std.proofs.lemmas.List.{length_push}
use Rattle.algebra.specs.Slice.{listed, written}
use Rattle.algebra.proofs.Size.{held}
use Rattle.algebra.proofs.Slice.{listed_next}
use Rattle.layer.specs.Layer.{cost_by}
use Rattle.layer.proofs.Turns.{Begins, turn, ended}
use Rattle.layer.proofs.cost.write_costs.Goals as goal

-- one more of the numbers f 0, f 1, .. is written
next : (f : ℕ → ℤ) (row : List ℤ) {i place n : ℕ} {answer : List ℤ} {v : ℤ} → answer ≡ written (listed f i) row → place ≡ i → v ≡ f i
    → n ≡ i + 1 → i < length row → set answer place v ≡ written (listed f n) row
next f row {i} {place} {n} {answer} {v} before here is more l =
    (λ j. set (before j) (here j) (is j)) ∙ listed_next f i row l ∙ ap (λ (k : ℕ). written (listed f k) row) (sym more)

pub loop-place-init : goal.loop-place-init
unfolding listed
loop-place-init c = (search rules, search rules, refl)

pub cost-requires : goal.cost-requires
cost-requires c =
    let begins : Begins c.args.list.now c.into_iter-place-iterator.result =
    record {
      short = c.requires.count_most;
      first_long = search arith;
      second_long = search arith;
      first = cc;
      second = cc;
      number = cc;
    } in
    let this = turn begins c.loop-place.yielded _ c.loop-place.yielded_by c.next.result c.next.new.self c.next.ensures.steps _ _ _
    c.in-Some.is in
    rw (this.begins, this.ends) (c.requires.fitting _ this.below)

pub loop-place-preserved : goal.loop-place-preserved
loop-place-preserved c =
    let begins : Begins c.args.list.now c.into_iter-place-iterator.result =
    record {
      short = c.requires.count_most;
      first_long = search arith;
      second_long = search arith;
      first = cc;
      second = cc;
      number = cc;
    } in
    let this = turn begins c.loop-place.yielded _ c.loop-place.yielded_by c.next.result c.next.new.self c.next.ensures.steps _ _ _
    c.in-Some.is in
    let cost_is = held w64 c.cost.type_inv c.cost.ensures ∙ (λ i. cost_by c.args.row.entries.now (this.begins i) (this.ends i)) in
    let written_more = next _ c.args.answer.now c.loop-place.invariant.2 this.number cost_is
    (length_push c.loop-place.yielded (c.in-Some.place, (c.in-Some.attachment, c.in-Some.limit)))
    (omega (arith, this.below, c.requires.count_fits)) in
    (search rules, search rules, written_more)

pub returns : goal.returns
returns c =
    let begins : Begins c.args.list.now c.into_iter-place-iterator.result =
    record {
      short = c.requires.count_most;
      first_long = search arith;
      second_long = search arith;
      first = cc;
      second = cc;
      number = cc;
    } in
    let last = ended begins c.loop-place.yielded _ c.loop-place.yielded_by c.next.result c.next.new.self c.next.ensures.steps
    c.in-None.is in
    rw last at c.loop-place.invariant.2
