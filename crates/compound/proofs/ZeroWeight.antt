-- Where the conditions before them hold no more, D and W are at least 1; with w(0) 0 the divisor is then D W, so that 11, 12 and 13 do not
-- hold. The rows follow the curve's rule, whose divisors are those of before.
use mathlib.Core.Path.{◌≡◌, ap, ◌∙◌}
use mathlib.Core.Bool.{◌&&◌, cond}
use mathlib.Core.List.{List, ◌++◌}
use Prim.Native.Nat.{ℕ, suc, ◌*◌, ◌≤◌, ◌<◌}
use native.Mathlib.Nat as NL
use native.Mathlib.Omega.{arith}
use borrow.Author.Tests.{ne_eqb}
use lib.Dec.{ltb}
use lib.IntN.{pos}
use lib.ListN.{get_or}
use Rattle.model.specs.declared.Job.{Job}
use Rattle.model.specs.Job.{job_divisor}
use Rattle.model.specs.Weights.{total_weight, all_weight, thinned_divisor, divisor_zero}
use Rattle.model.specs.Answer.{Answer, Condition, is_accepted, first_refusal}
use Rattle.model.proofs.Answer.{first_fails, NoneHolds, first_same}
use Rattle.model.proofs.Tests.{within}
use Rattle.model.proofs.Weights.{thinned_none}
use Rattle.enclosure.specs.Entry.{rounded}
use Rattle.rows.specs.Curve.{first_entry, sums_at, entry_at, curve_rows}
use Rattle.compound.specs.Lent.{Lent}
use Rattle.rows.proofs.Recursion.{curve_rule}
use Rattle.compound.specs.Call.{job_checks, zero_checks, room_checks, faults, curve_answer, ran, curve_lent}
use Rattle.compound.specs.ZeroWeight.{ZeroWeightAsBefore}

module _ (job : Job) (weights : List ℕ) (none : job.zero ≡ 0) where
  divisor_is : job_divisor job weights ≡ job.law.divisor * total_weight weights
  divisor_is = ap (λ (w₀ : ℕ). thinned_divisor job.law.divisor (get_or job.law.a 0 (pos 0)) w₀ (all_weight w₀ weights)) none
      ∙ thinned_none job.law.divisor (get_or job.law.a 0 (pos 0)) (all_weight 0 weights)
      ∙ ap (λ (w : ℕ). job.law.divisor * w) (NL.zero-add (total_weight weights))

  weight_is : all_weight job.zero weights ≡ total_weight weights
  weight_is = omega (arith, none)

  -- ---- the answer
  not_refused : NoneHolds (job_checks job weights) → (rest : List Condition) → first_refusal (zero_checks job weights ++ rest) ≡ first_refusal rest
  not_refused fails rest =
      let divisor : 1 ≤ job.law.divisor = (within 1 1000 job.law.divisor (fails 2)).0 in
      let total : 1 ≤ total_weight weights = rw weight_is at (within 1 1000 (all_weight job.zero weights) (fails 6)).0 in
      let thinned : 1 ≤ job_divisor job weights = rw divisor_is (NL.mul-pos divisor total) in
      first_fails _ _ (ap (λ (w₀ : ℕ). ltb 0 w₀ && ltb 1 job.law.order) none)
      ∙ first_fails _ _ (ne_eqb (job_divisor job weights) 0 (omega (arith, thinned)))
      ∙ first_fails _ _ (ne_eqb (total_weight weights) 0 (omega (arith, total)))

  without : (rest : List Condition)
      → first_refusal (job_checks job weights ++ (zero_checks job weights ++ rest)) ≡ first_refusal (job_checks job weights ++ rest)
  without rest = first_same (job_checks job weights) (zero_checks job weights ++ rest) rest (λ fails. not_refused fails rest)

  answer : (lent : Lent) → curve_answer job weights lent ≡ first_refusal (job_checks job weights ++ (room_checks job lent ++ faults job weights))
  unfolding curve_answer
  answer lent = without (room_checks job lent ++ faults job weights)

  lent_rows : (lent : Lent) → curve_lent job weights lent
      ≡ cond (is_accepted (first_refusal (job_checks job weights ++ room_checks job lent))) (ran job weights lent) lent
  unfolding curve_lent
  lent_rows lent = ap (λ (answer : Answer). cond (is_accepted answer) (ran job weights lent) lent) (without (room_checks job lent))

  -- ---- the rows
  first : (j : ℕ) → j < job.law.order → curve_rows job weights j 0 ≡ first_entry job.start j
  unfolding entry_at
  first j l = curve_rule job weights j 0 l

  row_zero : (x : ℕ) → 0 < job.law.order → curve_rows job weights 0 (suc x)
      ≡ rounded (job.law.divisor * suc x * total_weight weights) (sums_at job.law weights (curve_rows job weights) 0 (suc x))
  unfolding entry_at divisor_zero
  row_zero x l = curve_rule job weights 0 (suc x) l
      ∙ ap (λ (d : ℕ). rounded d (sums_at job.law weights (curve_rows job weights) 0 (suc x)))
      (ap (λ (d : ℕ). d * suc x) divisor_is ∙ NL.mul_right_comm job.law.divisor (total_weight weights) (suc x))

  row_next : (j x : ℕ) → suc j < job.law.order → curve_rows job weights (suc j) (suc x)
      ≡ rounded (total_weight weights) (sums_at job.law weights (curve_rows job weights) (suc j) (suc x))
  unfolding entry_at
  row_next j x l = curve_rule job weights (suc j) (suc x) l
      ∙ ap (λ (d : ℕ). rounded d (sums_at job.law weights (curve_rows job weights) (suc j) (suc x))) weight_is

pub zero_weight_as_before : ZeroWeightAsBefore
zero_weight_as_before job weights none = (
  answer job weights none,
  weight_is job weights none,
  lent_rows job weights none,
  first job weights none,
  row_zero job weights none,
  row_next job weights none,
)
