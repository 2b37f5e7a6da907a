-- The loop's invariant: no layer before this one is at fault, so the answer is that of the layers from here on.
use borrow.Author.Rules.{rules}
use borrow.Author.Tests.{lt-ltb, le-ltb}
use mathlib.Core.Path.{◌≡◌, sym, ◌∙◌, ap}
use mathlib.Core.Bool.{not}
use mathlib.Core.List.{◌++◌}
use Prim.Native.Nat.{ℕ, suc, ◌+◌, ◌-◌, ◌≤◌, ◌<◌}
use native.Mathlib.Omega.{arith}
use native.Mathlib.Numerals.{add-one}
use lib.ListN.{length}
use Rattle.std.proofs.lemmas.List.{length_push}
use Rattle.model.specs.Answer.{Answer, refused, first_refusal}
use Rattle.model.proofs.Answer.{first_none, first_holds, first_fails}
use Rattle.layer.specs.declared.LayerList.{LayerList}
use Rattle.layer.specs.Call.{attachment, limit, layer_conditions, layer_checks, all_layer_checks}
use Rattle.layer.proofs.Turns.{Begins, Turn, turn, ended}
use Rattle.layer.proofs.check.check_layers.Goals as goal

module _ (places : ℕ) (list : LayerList) where
  abbrev answer : Answer
  answer = first_refusal (all_layer_checks places list)

  abbrev answer_from : ℕ → Answer
  answer_from i = first_refusal (layer_checks places list.attachments list.limits (list.count - i) i)

  -- the conditions of layer i come first
  from_next : (i : ℕ) → i < list.count
      → answer_from i ≡ first_refusal (layer_conditions places (attachment list i) (limit list i) i
      ++ layer_checks places list.attachments list.limits (list.count - (i + 1)) (i + 1))
  unfolding layer_checks
  from_next i l =
      ap (λ (n : ℕ). first_refusal (layer_checks places list.attachments list.limits n i)) left
      ∙ ap (λ (k : ℕ). first_refusal (layer_conditions places (attachment list i) (limit list i) i
      ++ layer_checks places list.attachments list.limits (list.count - (i + 1)) k)) (sym (add-one i))
    where
      left : list.count - i ≡ suc (list.count - (i + 1))
      left = omega arith

  -- in a turn of the loop
  module _ {i place c d : ℕ} (this : Turn list i place c d) (before : answer ≡ answer_from i) where
    apart : answer ≡ first_refusal (layer_conditions places c d place
        ++ layer_checks places list.attachments list.limits (list.count - (i + 1)) (i + 1))
    apart = rw (this.number, this.begins, this.ends) (before ∙ from_next i this.below)

    attachment_refuses : d ≤ c → refused 62 place ≡ answer
    attachment_refuses le = sym (apart ∙ first_holds _ _ (ap not (le-ltb c d le)))

    limit_refuses : c < d → places < d → refused 63 place ≡ answer
    limit_refuses lt past = sym (apart ∙ first_fails _ _ (ap not (lt-ltb c d lt)) ∙ first_holds _ _ (lt-ltb places d past))

    passes : c < d → d ≤ places → answer ≡ answer_from (i + 1)
    passes lt le = apart ∙ first_fails _ _ (ap not (lt-ltb c d lt)) ∙ first_fails _ _ (le-ltb places d le)

-- 62
pub returns-then-limit-attachment : goal.returns-then-limit-attachment
returns-then-limit-attachment c =
    let begins : Begins c.args.list.now c.into_iter-place-iterator.result =
    record { short = c.requires; first_long = search arith; second_long = search arith; first = cc; second = cc; number = cc } in
    let this = turn begins c.loop-place.yielded _ c.loop-place.yielded_by c.next.result c.next.new.self c.next.ensures.steps _ _ _
    c.in-Some.is in
    attachment_refuses c.args.places c.args.list.now this c.loop-place.invariant.2 (omega (arith, c.if-limit-attachment.true))

-- 63
pub returns-then-places-limit : goal.returns-then-places-limit
returns-then-places-limit c =
    let begins : Begins c.args.list.now c.into_iter-place-iterator.result =
    record { short = c.requires; first_long = search arith; second_long = search arith; first = cc; second = cc; number = cc } in
    let this = turn begins c.loop-place.yielded _ c.loop-place.yielded_by c.next.result c.next.new.self c.next.ensures.steps _ _ _
    c.in-Some.is in
    limit_refuses c.args.places c.args.list.now this c.loop-place.invariant.2
    (omega (arith, c.if-limit-attachment.false)) (omega (arith, c.if-places-limit.true))

pub loop-place-preserved : goal.loop-place-preserved
loop-place-preserved c =
    let begins : Begins c.args.list.now c.into_iter-place-iterator.result =
    record { short = c.requires; first_long = search arith; second_long = search arith; first = cc; second = cc; number = cc } in
    let this = turn begins c.loop-place.yielded _ c.loop-place.yielded_by c.next.result c.next.new.self c.next.ensures.steps _ _ _
    c.in-Some.is in
    let right = passes c.args.places c.args.list.now this c.loop-place.invariant.2
    (omega (arith, c.if-limit-attachment.false)) (omega (arith, c.if-places-limit.false)) in
    (search rules, search rules, rw (length_push c.loop-place.yielded (c.in-Some.place, (c.in-Some.attachment, c.in-Some.limit))) right)

pub returns : goal.returns
unfolding layer_checks
returns c =
    let begins : Begins c.args.list.now c.into_iter-place-iterator.result =
    record { short = c.requires; first_long = search arith; second_long = search arith; first = cc; second = cc; number = cc } in
    let last = ended begins c.loop-place.yielded _ c.loop-place.yielded_by c.next.result c.next.new.self c.next.ensures.steps
    c.in-None.is in
    let none : c.args.list.now.count - length c.loop-place.yielded ≡ 0 = omega (arith, last) in
    sym (rw none at c.loop-place.invariant.2 ∙ first_none)
