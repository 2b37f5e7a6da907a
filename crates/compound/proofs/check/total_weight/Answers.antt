-- The weight at hand is the first of those that are still to come.
use Rattle.std.proofs.Common.{arith, ◌≡◌, ◌+◌, ◌<◌, ℕ, List, length, get_or, drop, ap, ◌∙◌}
use lib.Seq.{drop-length}
use Rattle.algebra.proofs.Slice.{drop_next}
use Rattle.model.specs.Weights.{total_weight}
use Rattle.compound.proofs.check.total_weight.Goals as goal

to_come : (weights : List ℕ) (i : ℕ) → i < length weights
    → total_weight (drop i weights) ≡ get_or weights i 0 + total_weight (drop (i + 1) weights)
to_come weights i h = ap total_weight (drop_next weights i 0 h)

none_to_come : (weights : List ℕ) (i : ℕ) → i ≡ length weights → total_weight (drop i weights) ≡ 0
none_to_come weights i e = ap (λ (k : ℕ). total_weight (drop k weights)) e ∙ ap total_weight (drop-length weights)

pub returns-then-total-eq-WEIGHT_CAP : goal.returns-then-total-eq-WEIGHT_CAP
returns-then-total-eq-WEIGHT_CAP c =
    omega (arith, c.loop-weight.invariant.whole, to_come c.args.weights.now c.loop-weight.weight-index c.loop-weight-test.true)

pub loop-weight-preserved : goal.loop-weight-preserved
loop-weight-preserved c = record {
  capped = omega arith;
  whole = omega (arith, c.loop-weight.invariant.whole, to_come c.args.weights.now c.loop-weight.weight-index c.loop-weight-test.true);
}

pub returns : goal.returns
returns c =
    omega (arith, c.loop-weight.invariant.whole, none_to_come c.args.weights.now c.loop-weight.weight-index (omega arith))
