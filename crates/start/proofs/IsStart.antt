-- What is given lies from 0 to U, since every step keeps that, and its high is at least 1, since every factor is above 0.
use Prim.Native.Nat.{◌/◌, ◌%◌}
use native.Mathlib.Omega.{arith}
use lib.Dec.{lit≤}
use Rattle.algebra.proofs.Integer.{pos_mono}
use Rattle.start.specs.Step.{certain}
use Rattle.start.specs.Call.{exp_minus_one, of_mean, of_trials}
use Rattle.start.specs.Holds.{LowerPositive, IsStart}
use Rattle.start.proofs.Step.{repeated_in_unit, repeated_stays}
use Rattle.start.proofs.Terms.{certain_in_unit}
use Rattle.start.proofs.Summed.{series_high}
use Rattle.start.proofs.Accepted.{mean_accepted, trials_accepted, rest_in_unit, exp_proper}

pub lower_positive : LowerPositive
lower_positive = (
  (λ r s e. (mean_accepted r s e).rest.lower_pos),
  (λ r s N e. (trials_accepted r s N e).proper.divisor_pos),
)

pub is_start : IsStart
unfolding of_mean of_trials
is_start = (
  (λ r s e.
      let k = mean_accepted r s e in
      let u = rest_in_unit r s k.rest in
      let high = series_high (r % s) s k.rest.below k.rest.lower_most in
      rw k.is (repeated_in_unit exp_minus_one exp_proper (r / s) _ u, repeated_stays exp_minus_one exp_proper (lit≤ tt) (r / s) _ u high)),
  (λ r s N e.
      let k = trials_accepted r s N e in
      rw k.is (
        repeated_in_unit _ k.proper N certain certain_in_unit,
        repeated_stays _ k.proper (omega arith) N certain certain_in_unit (pos_mono (lit≤ tt)),
      )),
)
