-- The words of the line come one after the other, and each begins where the one before it ends and a space more.
use mathlib.Core.Path.{◌≡◌, sym, ap, ◌∙◌}
use Prim.Native.Nat.{ℕ, ◌+◌}
use native.Mathlib.Omega.{arith}
use native.Mathlib.Nat.{add_assoc}
use lib.ListN.{length, drop_of_length-le}
use Rattle.std.proofs.Common.{true, false, rules, tests}
use Rattle.std.proofs.lemmas.Iterator.Consumers.{YieldsList-turn, YieldsList-end}
use Rattle.std.proofs.lemmas.List.{length_push}
use Rattle.lines.specs.Line.{keyword_of, number_words}
use Rattle.fault.specs.Call.{first_part}
use Rattle.fault.proofs.Split.{keyword_before, line_length, words_yielded, words_next, spaced_next, no_number}
use Rattle.fault.proofs.word.first_no_number.Goals as goal

pub loop-word-init : goal.loop-word-init
loop-word-init c =
    let line = c.args.line.now in
    let begins : c.until-start.result + 1 ≡ length (keyword_of line) + 1 =
    ap (λ (n : ℕ). n + 1) (c.until-start.ensures.found ∙ ap length (sym (keyword_before line))) in
    record {
      pieces = words_yielded line c.split.ensures.rest c.split.ensures.done c.split.ensures.closure (λ x b q k. search (rules, tests))
          c.skip-word-items.ensures.source c.skip-word-items.ensures.count c.into_iter-word-iterator.ensures.into_iter_gives;
      within = omega (arith, begins, line_length line);
      due = ap (λ (n : ℕ). first_part c.args.signs n (number_words line)) (sym begins);
    }

pub returns-then-is_none : goal.returns-then-is_none
unfolding first_part
returns-then-is_none c =
    let at = c.loop-word.invariant in
    let ws = number_words c.args.line.now in
    let turn = YieldsList-turn at.pieces c.loop-word.yielded _ c.loop-word.yielded_by _ _ c.in-Some.word c.in-Some.is c.next.ensures.steps in
    let next = words_next ws _ _ turn in
    sym (at.due ∙ ap (first_part c.args.signs c.loop-word.start) next ∙ rw (no_number c.number.result true c.number.ensures c.if-is_none.ensures))

pub overflow_add-start-in-loop-word-2 : goal.overflow_add-start-in-loop-word-2
overflow_add-start-in-loop-word-2 c =
    let at = c.loop-word.invariant in
    let ws = number_words c.args.line.now in
    let turn = YieldsList-turn at.pieces c.loop-word.yielded _ c.loop-word.yielded_by _ _ c.in-Some.word c.in-Some.is c.next.ensures.steps in
    let next = words_next ws _ _ turn in
    let longer = spaced_next ws _ _ next in
    omega (arith, longer, at.within)

pub loop-word-preserved : goal.loop-word-preserved
unfolding first_part
loop-word-preserved c =
    let at = c.loop-word.invariant in
    let ws = number_words c.args.line.now in
    let turn = YieldsList-turn at.pieces c.loop-word.yielded _ c.loop-word.yielded_by _ _ c.in-Some.word c.in-Some.is c.next.ensures.steps in
    let next = words_next ws _ _ turn in
    let more = length_push c.loop-word.yielded c.in-Some.word in
    let longer = spaced_next ws _ _ next in
    record {
      pieces = at.pieces;
      within = rw more (omega (arith, longer, at.within));
      due = rw (more, ← add_assoc c.loop-word.start (length c.in-Some.word.now) 1) (at.due ∙ ap (first_part c.args.signs c.loop-word.start) next ∙ rw (no_number c.number.result false c.number.ensures c.if-is_none.ensures));
    }

pub returns : goal.returns
unfolding first_part
returns c =
    let at = c.loop-word.invariant in
    let ws = number_words c.args.line.now in
    let end = YieldsList-end at.pieces c.loop-word.yielded _ c.loop-word.yielded_by _ _ c.in-None.is c.next.ensures.steps in
    let none = drop_of_length-le ws {i = length c.loop-word.yielded} (omega (arith, end.1)) in
    sym (at.due ∙ ap (first_part c.args.signs c.loop-word.start) none)
