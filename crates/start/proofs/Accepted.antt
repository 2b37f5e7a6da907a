-- What an acceptance says: no condition holds, the start is that of the definition, and its fractions and intervals are those that a step
-- takes.
use mathlib.Core.Path.{◌≡◌, sym, ap}
use mathlib.Core.Bool.{false}
use mathlib.Core.List.{[]}
use Prim.Native.Nat.{ℕ, ◌*◌, ◌-◌, ◌%◌, ◌≤◌, ◌<◌}
use native.Mathlib.Nat as NL
use native.Mathlib.Omega.{arith}
use borrow.Author.Tests.{leb-false}
use lib.Dec.{ltb, lit≤}
use lib.IntN.{pos}
use Rattle.algebra.proofs.Or.{or_left}
use Rattle.model.specs.declared.Start.{Start}
use Rattle.model.specs.Answer.{Answer, accepted, first_refusal}
use Rattle.model.specs.Limits.{unit}
use Rattle.model.proofs.Answer.{none_holds}
use Rattle.model.proofs.Tests.{within}
use Rattle.outward.specs.declared.Interval.{Interval}
use Rattle.outward.proofs.Division.{same_ends}
use Rattle.start.specs.Step.{exactly, InUnit}
use Rattle.start.specs.Room.{Proper}
use Rattle.start.specs.Call.{series, exp_minus_one, wrong_lower, wrong_mean, mean_checks, trials_checks, given, started, of_mean, of_trials}
use Rattle.start.specs.Call.{start_of_mean, start_of_trials}
use Rattle.start.proofs.Summed.{series_in_unit}

-- ---- the start follows from the answer
pub mean_is : (r s : ℕ) {answer : Answer} → first_refusal (mean_checks r s) ≡ answer → start_of_mean r s ≡ started answer (of_mean r s)
unfolding start_of_mean
mean_is r s e = ap (λ (a : Answer). started a (of_mean r s)) e

pub trials_is : (r s N : ℕ) {answer : Answer} → first_refusal (trials_checks r s N) ≡ answer
    → start_of_trials r s N ≡ started answer (of_trials r s N)
unfolding start_of_trials
trials_is r s N e = ap (λ (a : Answer). started a (of_trials r s N)) e

-- what the code gives where nothing refuses
pub given_is : {start : Start} {ends : Interval} → (ends.low ≡ pos start.low) × (ends.high ≡ pos start.high)
    → given start ≡ started accepted ends
given_is (low, high) = ap (started accepted) (same_ends (sym low) (sym high))

-- ---- a mean that passes 41
pub record Rest (r s : ℕ) : Type 0 where
  pub lower_pos : 1 ≤ s
  pub lower_most : s ≤ 1000
  pub below : r % s < s

pub rest_of : (r s : ℕ) → wrong_mean r s ≡ false → Rest r s
rest_of r s e = let w = within 1 1000 s (or_left (wrong_lower s) (ltb (20 * s) r) e) in record {
  lower_pos = w.0;
  lower_most = w.1;
  below = NL.mod-lt r w.0;
}

pub rest_in_unit : (r s : ℕ) → Rest r s → InUnit (series (r % s) s)
rest_in_unit r s k = series_in_unit (r % s) s k.below k.lower_most

pub record MeanAccepted (r s : ℕ) : Type 0 where
  pub rest : Rest r s
  pub is : start_of_mean r s ≡ started accepted (of_mean r s)

pub mean_accepted : (r s : ℕ) → (start_of_mean r s).answer ≡ accepted → MeanAccepted r s
unfolding start_of_mean
mean_accepted r s e = record {
  rest = rest_of r s ((none_holds (mean_checks r s) [] tt e).0 41);
  is = mean_is r s e;
}

pub exp_proper : Proper exp_minus_one
exp_proper = record { divisor_pos = lit≤ tt; divisor_most = NL.le_refl unit; in_order = lit≤ tt; at_most_one = lit≤ tt }

-- ---- a chance that passes 41 and 42
pub no_claim_proper : (r s : ℕ) → wrong_lower s ≡ false → r < s → Proper (exactly (s - r) s)
no_claim_proper r s e h = let w = within 1 1000 s e in record {
  divisor_pos = w.0;
  divisor_most = omega arith;
  in_order = NL.le_refl (s - r);
  at_most_one = omega arith;
}

pub record TrialsAccepted (r s N : ℕ) : Type 0 where
  pub below : r < s
  pub proper : Proper (exactly (s - r) s)
  pub is : start_of_trials r s N ≡ started accepted (of_trials r s N)

pub trials_accepted : (r s N : ℕ) → (start_of_trials r s N).answer ≡ accepted → TrialsAccepted r s N
unfolding start_of_trials
trials_accepted r s N e =
    let fails = (none_holds (trials_checks r s N) [] tt e).0 in
    let below = leb-false s r (fails 42) in record {
      below = below;
      proper = no_claim_proper r s (fails 41) below;
      is = trials_is r s N e;
    }
