-- Each turn of the fold is one step more.
use borrow.Author.Rules.{rules}
use mathlib.Core.Path.{◌≡◌, refl, ◌∙◌, ap}
use mathlib.Core.List.{List, [], ◌∷◌, ◌++◌}
use lib.ListN.{length}
use Prim.Native.Nat.{ℕ, ◌-◌}
use native.Mathlib.Omega.{arith}
use native.Mathlib.Numerals.{add-one}
use Rattle.std.specs.List.{range_with_len}
use Rattle.std.proofs.iter.Yields.{nat_range_steps}
use Rattle.std.proofs.lemmas.Fn.{fold_over}
use Rattle.std.proofs.lemmas.Iterator.{YieldsList-from_range}
use Rattle.std.proofs.lemmas.List.{length_push}
use Rattle.std.proofs.lemmas.List.FromFn.{length-range_with_len}
use Rattle.outward.specs.declared.Interval.{Interval}
use Rattle.start.specs.declared.scale.Factor.{Factor}
use Rattle.start.specs.declared.scale.Units.{Units}
use Rattle.start.specs.Step.{times, repeated}
use Rattle.start.proofs.scale.Units.repeated.Goals as goal

one_more : (factor : Factor) (ends : Interval) (items : List ℕ) (x : ℕ) (units next : Units)
    → units.ends ≡ repeated factor (length items) ends → next.ends ≡ times factor units.ends
    → next.ends ≡ repeated factor (length (items ++ x ∷ [])) ends
unfolding repeated
one_more factor ends items x units next e f = rw (length_push items x, add-one (length items)) (f ∙ ap (times factor) e)

pub returns : goal.returns
unfolding repeated
returns c =
    let a = c.args in
    let turns : List ℕ → Units → Type 0 = λ items units. units.ends ≡ repeated a.factor (length items) a.self.ends in
    let whole : a.count - 0 ≡ a.count = omega arith in
    let items = YieldsList-from_range 0 a.count a.count refl whole in
    let all = fold_over nat_range_steps (λ x. x) _ turns _
    (λ items units x next f e called. (one_more _ _ items x units next e (search rules), search rules))
    (record { start = 0; end = a.count }) (range_with_len 0 a.count) _ _ items.runs refl c.fold.ensures.ran in
    rw (length-range_with_len 0 a.count) at all
