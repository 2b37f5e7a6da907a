-- The test of the code is the condition of the list; where it does not hold, the lower number is from 1 to 1,000, and what comes out is the
-- definition's.
use mathlib.Core.Path.{refl, sym, ◌∙◌, ap}
use Rattle.model.specs.Answer.{accepted}
use Rattle.model.proofs.Answer.{due_first, due_refuses, due_accepts}
use Rattle.start.specs.Step.{repeated}
use Rattle.start.specs.Call.{started, of_mean}
use Rattle.start.proofs.Accepted.{mean_is, given_is}
use Rattle.start.proofs.mean.Goals as goal

pub returns-then-is_wrong_mean : goal.returns-then-is_wrong_mean
returns-then-is_wrong_mean c = sym (mean_is _ _ (due_refuses (due_first c.is_wrong_mean.ensures) c.if-is_wrong_mean.true))

pub returns : goal.returns
unfolding of_mean
returns c =
    given_is c.into.ensures ∙ ap (started accepted) (c.repeated-units.ensures ∙ ap (repeated _ _) c.partial_sums.ensures)
    ∙ sym (mean_is _ _ (due_accepts refl (due_first c.is_wrong_mean.ensures) c.if-is_wrong_mean.false))
