-- Each test of the code is a condition of the list, due where no condition before it holds; where none holds, what comes out is the
-- definition's.
use borrow.Author.Tests.{le-leb, lt-leb}
use mathlib.Core.Bool.{Bool, false}
use mathlib.Core.Path.{◌≡◌, refl, sym, ◌∙◌, ap}
use Prim.Native.Nat.{ℕ}
use lib.Dec.{leb}
use Rattle.model.specs.Answer.{accepted}
use Rattle.model.specs.Limits.{outside}
use Rattle.model.proofs.Answer.{Due, due_first, due_next, due_refuses, due_accepts}
use Rattle.start.specs.Step.{certain, repeated}
use Rattle.start.specs.Call.{wrong_lower, trials_checks, started, of_trials}
use Rattle.start.proofs.Accepted.{trials_is, given_is}
use Rattle.start.proofs.trials.Goals as goal

-- ---- one condition after the other
module _ (r s N : ℕ) {wrong : Bool} (lower : wrong ≡ wrong_lower s) where
  -- 41, the lower number
  lower_due : Due (trials_checks r s N) 0 wrong
  lower_due = due_first lower

  -- 42, the chance
  chance_due : wrong ≡ false → Due (trials_checks r s N) 1 (leb s r)
  chance_due e = due_next lower_due e refl

  -- 43, the number of trials
  trials_due : {none : Bool} → wrong ≡ false → leb s r ≡ false → none ≡ outside 1 1000 N → Due (trials_checks r s N) 2 none
  trials_due e f g = due_next (chance_due e) f g

pub returns-then-is_wrong_lower : goal.returns-then-is_wrong_lower
returns-then-is_wrong_lower c =
    let a = c.args in
    sym (trials_is _ _ _ (due_refuses (lower_due a.upper a.lower a.trials c.is_wrong_lower.ensures) c.if-is_wrong_lower.true))

pub returns-then-lower-upper : goal.returns-then-lower-upper
returns-then-lower-upper c =
    let a = c.args in
    let due = chance_due a.upper a.lower a.trials c.is_wrong_lower.ensures c.if-is_wrong_lower.false in
    sym (trials_is _ _ _ (due_refuses due (le-leb _ _ c.if-lower-upper.true)))

pub returns-then-is_outside : goal.returns-then-is_outside
returns-then-is_outside c =
    let a = c.args in
    let due = trials_due a.upper a.lower a.trials c.is_wrong_lower.ensures c.if-is_wrong_lower.false (lt-leb _ _ c.if-lower-upper.false)
    c.is_outside.ensures in
    sym (trials_is _ _ _ (due_refuses due c.if-is_outside.true))

pub returns : goal.returns
unfolding of_trials
returns c =
    let a = c.args in
    let due = trials_due a.upper a.lower a.trials c.is_wrong_lower.ensures c.if-is_wrong_lower.false (lt-leb _ _ c.if-lower-upper.false)
    c.is_outside.ensures in
    let power = c.repeated-units.ensures ∙ ap (λ f. repeated f a.trials certain) c.exactly-no_claim.ensures in
    given_is c.into.ensures ∙ ap (started accepted) power ∙ sym (trials_is _ _ _ (due_accepts refl due c.if-is_outside.false))
