-- The start for trials holds the exact power: U times the power of one trial more is U times the power times (s - r) over s, which is one
-- step.
use mathlib.Core.Path.{◌≡◌, refl, ◌∙◌, ap}
use Prim.Native.Nat.{ℕ, zero, suc, ◌-◌, ◌≤◌, ◌<◌}
use lib.IntN.{pos, neg_ℤ, ◌-ℤ◌}
use Rattle.algebra.specs.Semiring.{Semiring, nat}
use Rattle.algebra.specs.Ring.{int}
use Rattle.algebra.specs.Fraction.{Fraction, over, whole, power}
use Rattle.algebra.proofs.Semiring.{ring}
use Rattle.algebra.proofs.Integer.{signed, split_add, split_neg}
use Rattle.algebra.proofs.Ring.{int_pos}
use Rattle.algebra.proofs.Value.{order, ℚ, value, value_times, value_nat, value_over, value_product_zero, value_product_suc, of_within}
use Rattle.model.specs.Limits.{unit}
use Rattle.start.specs.Step.{certain, exactly, repeated}
use Rattle.start.specs.Call.{of_trials}
use Rattle.start.specs.Holds.{HoldsPower, power_units}
use Rattle.start.proofs.Held.{Held, certain_held, times_held_exactly}
use Rattle.start.proofs.Accepted.{trials_accepted}
open ℚ use {carrier as A, ◌·◌}

infixl 7 ◌·◌
module _ (r s : ℕ) (below : r < s) (h : 1 ≤ s) where
  x : Fraction
  x = over (pos s -ℤ pos r) s h

  one_trial : nat ℚ s · value x ≡ nat ℚ (s - r)
  unfolding x
  one_trial = value_over (pos s -ℤ pos r) s h ∙ ap (int order.ring) (omega (signed, split_add (pos s) (neg_ℤ (pos r)), split_neg (pos r)))
      ∙ int_pos order.ring (s - r)

  moved : (S : Semiring) (a u p v : S.carrier) → S.◌·◌ a (S.◌·◌ u (S.◌·◌ p v)) ≡ S.◌·◌ (S.◌·◌ a v) (S.◌·◌ u p)
  moved S a u p v = simp ring

  power_held : (n : ℕ) → Held (repeated (exactly (s - r) s) n certain) (nat ℚ unit · value (power x n))
  unfolding repeated
  power_held zero = rw (value_product_zero, ℚ.mul_one (nat ℚ unit)) certain_held
  power_held (suc n) = times_held_exactly (exactly (s - r) s) h (repeated (exactly (s - r) s) n certain)
      (nat ℚ unit · value (power x n)) (nat ℚ unit · value (power x (suc n))) (power_held n) refl
      (ap (λ (v : A). nat ℚ s · (nat ℚ unit · v)) (value_product_suc n (λ _. x))
      ∙ moved ℚ (nat ℚ s) (nat ℚ unit) (value (power x n)) (value x)
      ∙ ap (λ (v : A). v · (nat ℚ unit · value (power x n))) one_trial)

pub holds_power : HoldsPower
unfolding of_trials x
holds_power r s N e h =
    let k = trials_accepted r s N e in
    rw k.is (of_within _ _ (power_units r s N h) (rw units (power_held r s k.below h N)))
  where
    units : value (power_units r s N h) ≡ nat ℚ unit · value (power (over (pos s -ℤ pos r) s h) N)
    units = value_times (whole (pos unit)) (power (over (pos s -ℤ pos r) s h) N)
        ∙ ap (λ (v : A). v · value (power (over (pos s -ℤ pos r) s h) N)) (value_nat unit)
