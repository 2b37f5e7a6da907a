-- The rule reads only the rows 0 to k - 1 at earlier totals, so that the rows made total by total follow it.
use mathlib.Core.Path.{◌≡◌, refl, sym, ap, ◌∙◌}
use mathlib.Core.Bool.{true}
use mathlib.Core.List.{List}
use Prim.Native.Nat.{ℕ, zero, suc, ◌-◌, ◌<◌}
use native.Mathlib.Omega.{arith}
use Rattle.algebra.specs.Tabled.{Agree, Local}
use Rattle.algebra.proofs.Sum.{accumulate_cong}
use Rattle.algebra.proofs.Tabled.{tabled_rule}
use Rattle.model.specs.declared.Job.{Job}
use Rattle.enclosure.specs.Entry.{none, plus, rounded, divides_sums}
use Rattle.rows.specs.Curve.{Rows, severities, sums_zero, sums_next, sums_at, divisor_at, first_entry}
use Rattle.rows.specs.Curve.{entry_at, curve_rows, CurveRule}
use Rattle.rows.specs.Exact.{divides_at}

-- a number that is not 0
pub suc_pred : (n : ℕ) → (n ≡ 0 → ⊥) → n ≡ suc (n - 1)
suc_pred n h = omega arith

module _ (job : Job) (weights : List ℕ) where
  -- the rule, by the tests of the code
  module _ (rows : Rows) (j x : ℕ) where
    pub entry_first : x ≡ 0 → entry_at job weights rows j x ≡ first_entry job.start j
    unfolding entry_at
    entry_first e = ap (entry_at job weights rows j) e

    pub entry_later : (x ≡ 0 → ⊥) → entry_at job weights rows j x ≡ rounded (divisor_at job weights j x) (sums_at job.law weights rows j x)
    unfolding entry_at
    entry_later later = ap (entry_at job weights rows j) (suc_pred x later)
        ∙ ap (λ (n : ℕ). rounded (divisor_at job weights j n) (sums_at job.law weights rows j n)) (sym (suc_pred x later))

    pub divides_first : x ≡ 0 → divides_at job weights rows j x ≡ true
    unfolding divides_at
    divides_first e = ap (divides_at job weights rows j) e

    pub divides_later : (x ≡ 0 → ⊥)
        → divides_at job weights rows j x ≡ divides_sums (divisor_at job weights j x) (sums_at job.law weights rows j x)
    unfolding divides_at
    divides_later later = ap (divides_at job weights rows j) (suc_pred x later)
        ∙ ap (λ (n : ℕ). divides_sums (divisor_at job weights j n) (sums_at job.law weights rows j n)) (sym (suc_pred x later))

  -- the sums read nothing else
  pub sums_local : (rows rows' : Rows) (j x : ℕ) → j < job.law.order → Agree job.law.order rows rows' (suc x)
      → sums_at job.law weights rows j (suc x) ≡ sums_at job.law weights rows' j (suc x)
  unfolding sums_zero sums_next
  sums_local rows rows' zero x h agree = accumulate_cong none plus job.law.order (λ i l.
      accumulate_cong none plus (severities weights (suc x)) (λ y m. rw (agree i (suc x - suc y) l (omega arith))))
  sums_local rows rows' (suc j) x h agree = accumulate_cong none plus (severities weights (suc x)) (λ y m.
      rw (agree j (suc x - suc y) (omega arith) (omega arith)))

  pub entry_local : Local none job.law.order (entry_at job weights)
  unfolding entry_at
  entry_local rows rows' j zero h agree = refl
  entry_local rows rows' j (suc x) h agree = ap (rounded _) (sums_local rows rows' j x h agree)

  pub curve_rule : CurveRule job weights
  unfolding curve_rows
  curve_rule = tabled_rule none job.law.order (entry_at job weights) entry_local
