-- Every entry of the curve's rows is in order, and marked where its ends are equal: at total 0 all are marked, and each step of the outward
-- rule keeps it so (enclosure/proofs/EqualEnds), as the marks follow the same recursion as the entries.
use mathlib.Core.Path.{refl, sym, subst₂}
use mathlib.Core.List.{List}
use Prim.Native.Nat.{ℕ, zero, suc, ◌-◌, ◌<◌}
use native.Mathlib.Omega.{arith}
use Rattle.algebra.proofs.Induction.{strong}
use Rattle.algebra.proofs.Integer.{signed}
use Rattle.model.specs.declared.Job.{Job}
use Rattle.enclosure.specs.EqualEnds.{EqualMarked}
use Rattle.enclosure.proofs.EqualEnds.{product_marked, sum_marked, quotient_marked}
use Rattle.rows.specs.Curve.{severities, sums_zero, sums_next, entry_at, curve_rows}
use Rattle.rows.specs.Exact.{used_zero, used_next, divides_at, exact_at, curve_marks}
use Rattle.rows.specs.Limits.{Limits}
use Rattle.rows.proofs.Preserved.{DivisorsPos, divisors_pos}
use Rattle.rows.proofs.Recursion.{curve_rule}
use Rattle.rows.proofs.MarkRule.{mark_rule}

module _ (job : Job) (weights : List ℕ) (limits : Limits job weights) where
  -- the claim at total x, for the rows 0 to k - 1
  abbrev At : ℕ → Type 0
  At x = (j : ℕ) → j < job.law.order → EqualMarked (curve_rows job weights j x) (curve_marks job weights j x)

  divisors : DivisorsPos job weights
  divisors = divisors_pos job weights limits.thinned_least limits.table.weights_least

  entry_marked : (j x : ℕ) → j < job.law.order → ((z : ℕ) → z < x → At z)
      → EqualMarked (entry_at job weights (curve_rows job weights) j x)
      (exact_at job weights (curve_rows job weights) (curve_marks job weights) j x)
  unfolding entry_at exact_at divides_at sums_zero sums_next used_zero used_next
  entry_marked zero zero l before = record { in_order = omega (signed, limits.start_order); marked = λ _. refl }
  entry_marked (suc j) zero l before = record { in_order = omega signed; marked = λ _. refl }
  entry_marked zero (suc x) l before = quotient_marked _ _ _ (divisors 0 x l)
      (sum_marked job.law.order _ _ (λ i k. sum_marked (severities weights (suc x)) _ _ (λ y m.
      product_marked _ _ _ (before (suc x - suc y) (omega arith) i k))))
  entry_marked (suc j) (suc x) l before = quotient_marked _ _ _ (divisors (suc j) x l)
      (sum_marked (severities weights (suc x)) _ _ (λ y m.
      product_marked _ _ _ (before (suc x - suc y) (omega arith) j (omega arith))))

  pub all_marked : (x : ℕ) → At x
  all_marked = strong At (λ x before j l. subst₂ EqualMarked (sym (curve_rule job weights j x l)) (sym (mark_rule job weights j x l))
      (entry_marked j x l before))
