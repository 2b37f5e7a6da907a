-- The divisor of row 0 at total 1 is at most 2,000,000, and a total at most 500.
use Rattle.std.proofs.Common.{◌≡◌, ◌≤◌, ◌<◌, ◌*◌, ℕ, List, ap, ◌∙◌, arith, sym}
use native.Mathlib.Nat as NL
use lib.Dec.{lit<}
use lib.IntN.{pos}
use lib.ListN.{get_or}
use Rattle.model.specs.Weights.{all_weight, divisor_zero}
use Rattle.model.specs.Job.{job_divisor}
use Rattle.model.specs.declared.Job.{Job}
use Rattle.model.proofs.Weights.{thinned_most}
use Rattle.rows.specs.declared.total.Divisors.{Divisors}
use Rattle.rows.specs.Curve.{divisor_at}
use Rattle.rows.specs.Limits.{Limits}
use Rattle.rows.specs.Progress.{divisors_of}
use Rattle.rows.proofs.total.Recursion.divisor.Goals as goal

module _ (job : Job) (weights : List ℕ) (limits : Limits job weights) (d : Divisors) (divided : d ≡ divisors_of job weights) where
  first_is : d.first ≡ job_divisor job weights
  first_is = ap (λ (d : Divisors). d.first) divided

  first_most : d.first ≤ 2000000
  first_most = rw first_is (thinned_most job.law.divisor (get_or job.law.a 0 (pos 0)) job.zero (all_weight job.zero weights)
      limits.law.divisor_most (limits.law.a_small 0 (lit< tt)) (omega (arith, limits.all_most)) limits.all_most)

  row_zero : (j x : ℕ) → j ≡ 0 → d.first * x ≡ divisor_at job weights j x
  unfolding divisor_zero
  row_zero j x e = ap (λ (n : ℕ). n * x) first_is ∙ ap (λ (i : ℕ). divisor_at job weights i x) (sym e)

  within : (x : ℕ) → 1 ≤ x → x ≤ 500 → (1 ≤ d.first * x) × (d.first * x < 9223372036854775808)
  within x h l = (
    rw first_is (NL.mul-pos limits.thinned_least h),
    omega (arith, NL.mul-le-mul_right x first_most),
  )

pub overflow_mul-result : goal.overflow_mul-result
overflow_mul-result c =
    let r = c.args.self.now in
    let h = within r.job r.weights.now r.limits r.divisors r.divided c.args.x c.requires.0 c.requires.1 in
    record { fits = omega arith }

pub returns-then-row-eq0-clause-divisor : goal.returns-then-row-eq0-clause-divisor
returns-then-row-eq0-clause-divisor c =
    let r = c.args.self.now in
    row_zero r.job r.weights.now r.limits r.divisors r.divided c.args.row c.args.x c.if-row-eq0.true

pub returns-then-row-eq0-clause-fits : goal.returns-then-row-eq0-clause-fits
returns-then-row-eq0-clause-fits c =
    let r = c.args.self.now in
    within r.job r.weights.now r.limits r.divisors r.divided c.args.x c.requires.0 c.requires.1
