-- The loop goes over the digits that the text begins with, 10 at most.
use Rattle.std.proofs.Common.{rules, Bor, Iter, Bool, false}
use borrow.Author.Tests.{tests}
use denote.Param.Members.{Mut}
use mathlib.Core.Path.{◌≡◌, refl, ap, subst, ◌∙◌}
use mathlib.Core.List.{List, map}
use Prim.Native.Nat.{ℕ}
use native.Mathlib.Omega.{arith}
use lib.ListN.{length, length-map}
use Rattle.std.proofs.iter.Yields.{fronts}
use Rattle.std.specs.declared.iter.Take.{Take}
use Rattle.std.specs.declared.iter.TakeWhile.{TakeWhile}
use Rattle.std.specs.Fn.{CalledAt}
use Rattle.std.specs.Slice.Iter.{iter_rest}
use Rattle.std.specs.Iterator.Adapters.{take_source, take_count, take_steps}
use Rattle.std.specs.Iterator.Adapters.{take_while_source, take_while_done, take_while_callee, take_while_steps}
use Rattle.std.proofs.lemmas.Iterator.{YieldsList, YieldsList-from_slice, YieldsList-from_take}
use Rattle.std.proofs.lemmas.Iterator.Consumers.{YieldsList-at, YieldsList-turn, YieldsList-end}
use Rattle.std.proofs.lemmas.Iterator.Search.{YieldsList-from_take_while}
use Rattle.std.proofs.lemmas.List.{map_push, length_push}
use Rattle.text.specs.Numbers.{is_digit, value_from, value}
use Rattle.text.specs.Leading.{leading_digits}
use Rattle.text.proofs.Read.{digit_range}
use Rattle.text.proofs.Leading.{NextDigit, next_digit, leading_taken}
use Rattle.text.proofs.numbers.leading_digits.Goals as goal

-- the digits come one after the other
digits_come : {F : Type 0} {it : TakeWhile (Take (Iter ℕ)) F} (g : Mut F (Bor (Bor ℕ) × Unit {0}) Bool) {f : F} (most : Take (Iter ℕ))
    (s : List ℕ) → take_count most ≡ 10 → iter_rest (take_source most) ≡ s → take_while_source it ≡ most → take_while_callee it ≡ f
    → take_while_done it ≡ false
    → ((x : Bor ℕ) (b : Bool) (q : F) → CalledAt g f x b q → (q ≡ f) × (b ≡ is_digit x.now))
    → YieldsList (take_while_steps (take_steps fronts) g) (λ b. b.now) it (leading_digits 10 s)
digits_come {it = it} g most s ten from source callee done tests =
    subst (YieldsList (take_while_steps (take_steps fronts) g) (λ b. b.now) it) (leading_taken 10 s)
    (YieldsList-from_take_while g is_digit (YieldsList-at source (YieldsList-from_take 10 (YieldsList-from_slice s from) ten))
    callee done tests)

pub loop-b-init : goal.loop-b-init
unfolding value_from
loop-b-init c = record { counted = refl; stand = refl; front = refl }

-- at one more digit
turn : (c : goal.After-from-digit) → NextDigit c.args.s.now (map (λ b. b.now) c.loop-b.yielded) c.in-Some.b.now
turn c =
    let turn = YieldsList-turn (digits_come _ c.take.result c.args.s.now c.take.ensures.count (cc) (cc) (cc) (cc)
    (λ x b q k. search (rules, tests)))
    c.loop-b.yielded _ c.loop-b.yielded_by _ _ c.in-Some.b c.in-Some.is c.next.ensures.steps in
    let t = rw (← length-map c.loop-b.yielded (λ (b : Bor ℕ). b.now)) at turn in
    next_digit c.args.s.now _ _ c.loop-b.invariant.front t.0 t.1

pub overflow_mul-value : goal.overflow_mul-value
overflow_mul-value c = let next = turn c in omega (arith, next.small, c.loop-b.invariant.stand)

pub overflow_add-value : goal.overflow_add-value
overflow_add-value c = let next = turn c in omega (arith, next.small, c.loop-b.invariant.stand, digit_range c.in-Some.b.now next.is)

pub overflow_add-count : goal.overflow_add-count
overflow_add-count c = let next = turn c in omega (arith, next.few, c.loop-b.invariant.counted)

pub loop-b-preserved : goal.loop-b-preserved
loop-b-preserved c =
    let next = turn c in
    let w = map (λ (b : Bor ℕ). b.now) c.loop-b.yielded in
    let more = map_push (λ (b : Bor ℕ). b.now) c.loop-b.yielded c.in-Some.b in
    rw (more, length_push w c.in-Some.b.now) (record {
      counted = omega (arith, c.loop-b.invariant.counted);
      stand = omega (arith, next.stands, c.loop-b.invariant.stand, c.from-digit.ensures);
      front = next.front;
    })

pub returns : goal.returns
returns c =
    let end = YieldsList-end (digits_come _ c.take.result c.args.s.now c.take.ensures.count (cc) (cc) (cc) (cc)
    (λ x b q k. search (rules, tests)))
    c.loop-b.yielded _ c.loop-b.yielded_by _ _ c.in-None.is c.next.ensures.steps in
    let all = end.0 in
    (λ i. record { count = (c.loop-b.invariant.counted ∙ ap length all) i; value = (c.loop-b.invariant.stand ∙ ap value all) i })
