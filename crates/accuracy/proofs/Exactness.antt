-- An exact entry is the clerk's, for the low start and for the high start: the exact rows follow the same recursion, and each of its steps
-- keeps that (enclosure/proofs/Ends). Where low equals high, the amount between them is the same number, and the mark is that of any row's
-- entry with equal ends.
use mathlib.Core.Path.{◌≡◌, sym, ◌∙◌, ap, subst, subst₂}
use mathlib.Core.Bool.{true}
use mathlib.Core.List.{List}
use Prim.Native.Nat.{ℕ, zero, suc, ◌-◌, ◌<◌}
use native.Mathlib.Omega.{arith}
use lib.IntN.{pos}
use lib.ListN.{get_or}
use Rattle.algebra.specs.Fraction.{whole, ◌≈◌, ◌≼◌}
use Rattle.algebra.specs.Ring.{int}
use Rattle.algebra.specs.Semiring.{nat}
use Rattle.algebra.proofs.And.{both, all_each}
use Rattle.algebra.proofs.Induction.{strong}
use Rattle.algebra.proofs.Value.{order, ℚ, value_le, eq_of_value, value_int}
use Rattle.model.specs.declared.Job.{Job}
use Rattle.model.specs.Mark.{mark_of, is_exact}
use Rattle.exact.specs.Frequency.{Frequency}
use Rattle.exact.specs.Severity.{Severity}
use Rattle.exact.specs.Recursion.{whole_factor}
use Rattle.exact.specs.JobAmount.{Divisible, given_law, job_law, job_table, amount}
use Rattle.exact.proofs.Amount.{value_row, value_amount}
use Rattle.exact.proofs.Recursion.{first_value, first_further}
use Rattle.exact.proofs.Thinned.{thinned_recursion_value, thinned_convolution_value}
use Rattle.enclosure.specs.declared.Entry.{Entry}
use Rattle.enclosure.specs.Ends.{Ends}
use Rattle.enclosure.proofs.Exact.{mark_exact}
use Rattle.enclosure.proofs.Ends.{sum_exact, term_sum_exact, quotient_exact}
use Rattle.rows.specs.Curve.{severities, factor, first_entry, sums_zero, sums_next, entry_at, curve_rows}
use Rattle.rows.specs.Exact.{used_zero, used_next, divides_at, exact_at, curve_marks}
use Rattle.rows.proofs.Preserved.{divisors_pos}
use Rattle.rows.proofs.Recursion.{curve_rule}
use Rattle.rows.proofs.MarkRule.{mark_rule}
use Rattle.compound.proofs.Accepted.{limits, no_zeros, shows, shows_mark}
use Rattle.accuracy.specs.Exactness.{ShowsMarks, ExactIsClerks, EqualEndsKnown, EqualEndsMarked}
use Rattle.accuracy.proofs.Accuracy.{encloses}
use Rattle.accuracy.proofs.EqualEnds.{all_marked}

-- ---- all entries
module _ (job : Job) (weights : List ℕ) (h : Divisible job weights) (no_zeros : 1 < job.law.order → job.zero ≡ 0) where
  abbrev law : Frequency
  law = job_law job weights h

  abbrev table : Severity
  table = job_table job weights h

  -- the exact entry for a start of n
  abbrev exactly : ℕ → ℕ → ℕ → ℚ.carrier
  exactly n = value_row law table (whole (pos n))

  -- an exact entry has the exact ones as its ends
  abbrev Right : ℕ → Entry → ℕ → Type 0
  Right j e x = Ends order e (exactly job.start.low j x) (exactly job.start.high j x)

  abbrev At : ℕ → Type 0
  At x = (j : ℕ) → j < job.law.order → curve_marks job weights j x ≡ true → Right j (curve_rows job weights j x) x

  first_ends : (j : ℕ) → Right j (first_entry job.start j) 0
  unfolding int nat
  first_ends zero = record { low = sym (first_value law table _ ∙ value_int _); high = sym (first_value law table _ ∙ value_int _) }
  first_ends (suc j) = record { low = sym (first_further law table _ j); high = sym (first_further law table _ j) }

  entry_right : (j x : ℕ) → j < job.law.order → ((z : ℕ) → z < x → At z)
      → exact_at job weights (curve_rows job weights) (curve_marks job weights) j x ≡ true
      → Right j (entry_at job weights (curve_rows job weights) j x) x
  unfolding entry_at exact_at divides_at sums_zero sums_next used_zero used_next factor whole_factor int
  entry_right j zero l before t = first_ends j
  entry_right zero (suc x) l before t =
      let (divides, used) = both t in
      let rule = thinned_recursion_value (given_law job weights h) job.zero table h.thinned_pos in
      quotient_exact order _ _ _ _ (divisors_pos job weights h.thinned_pos h.total_pos 0 x l)
      (subst₂ (Ends order _) (sym (rule _ (suc x))) (sym (rule _ (suc x))) (sum_exact order job.law.order _ _ _ (λ i k.
      term_sum_exact order (severities weights (suc x)) (factor job.law weights (suc x) i) (λ y. curve_rows job weights i (suc x - suc y))
      (λ y. curve_marks job weights i (suc x - suc y)) _ _ (λ y m. before (suc x - suc y) (omega arith) i k)
      (all_each job.law.order _ used i k))))
      divides
  entry_right (suc j) (suc x) l before t =
      let (divides, used) = both t in
      let none = no_zeros (omega arith) in
      let rule = thinned_convolution_value (given_law job weights h) job.zero table h.thinned_pos in
      quotient_exact order _ _ _ _ (divisors_pos job weights h.thinned_pos h.total_pos (suc j) x l)
      (subst₂ (Ends order _) (sym (rule _ j (suc x) none)) (sym (rule _ j (suc x) none))
      (term_sum_exact order (severities weights (suc x)) (λ y. pos (get_or weights y 0)) (λ y. curve_rows job weights j (suc x - suc y))
      (λ y. curve_marks job weights j (suc x - suc y)) _ _ (λ y m. before (suc x - suc y) (omega arith) j (omega arith)) used))
      divides

  all_right : (x : ℕ) → At x
  all_right = strong At (λ x before j l t. subst (λ e. Right j e x) (sym (curve_rule job weights j x l))
      (entry_right j x l before (sym (mark_rule job weights j x l) ∙ t)))

-- ---- the statements
pub shows_marks : ShowsMarks
shows_marks = shows_mark

pub exact_is_clerks : ExactIsClerks
exact_is_clerks job weights lent ok h x l e =
    let sure = sym (mark_exact (curve_marks job weights 0 x)) ∙ ap is_exact (sym (shows_mark job weights lent ok x l) ∙ e) in
    let none = no_zeros job weights lent ok in
    let ends = all_right job weights h none x 0 (limits job weights lent ok).law.order_least sure in
    subst (λ (e : Entry). (whole e.low ≈ amount job weights h (whole (pos job.start.low)) x)
    × (whole e.high ≈ amount job weights h (whole (pos job.start.high)) x)) (sym (shows job weights lent ok x l)) (
      eq_of_value (value_int _ ∙ ends.low ∙ sym (value_amount (law job weights h none) (table job weights h none) _ x)),
      eq_of_value (value_int _ ∙ ends.high ∙ sym (value_amount (law job weights h none) (table job weights h none) _ x)),
    )

pub equal_ends_known : EqualEndsKnown
equal_ends_known job weights lent ok h x l same p s t =
    let (below, above) = encloses job weights lent ok h x l p s t in
    eq_of_value (order.le_antisymm (value_le below) (value_le (subst (λ z. amount job weights h p x ≼ whole z) (sym same) above)))

pub equal_ends_marked : EqualEndsMarked
equal_ends_marked job weights lent ok x l same =
    let within = limits job weights lent ok in
    shows_mark job weights lent ok x l ∙ ap mark_of ((all_marked job weights within x 0 within.law.order_least).marked
    (subst (λ (e : Entry). e.low ≡ e.high) (shows job weights lent ok x l) same))
