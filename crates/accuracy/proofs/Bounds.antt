-- Two jobs alike in law, table and gap have the same bounds: the rule for a bound names no low and no high, so the entries of the one job
-- stand beside those of the other with equal bounds.
use mathlib.Core.Path.{◌≡◌, refl, sym, ap, ap₂, subst, subst₂}
use mathlib.Core.List.{List}
use Prim.Native.Nat.{ℕ, zero, suc, ◌<◌}
use lib.IntN.{ℤ, pos, nat_abs, ◌+ℤ◌, ◌*ℤ◌}
use Rattle.model.specs.declared.Law.{Law}
use Rattle.model.specs.declared.Job.{Job}
use Rattle.model.specs.Job.{job_of}
use Rattle.exact.specs.JobAmount.{Divisible}
use Rattle.enclosure.specs.declared.Entry.{Entry}
use Rattle.enclosure.specs.Entry.{none, plus, scaled, rounded}
use Rattle.enclosure.proofs.Rounded.{bound_alone}
use Rattle.rows.specs.Curve.{factor, first_entry, sums_zero, sums_next, entry_at, curve_rows}
use Rattle.rows.proofs.Recursion.{curve_rule}
use Rattle.rows.proofs.Preserved.{Preserved, Follows, divisors_pos, all_preserved}
use Rattle.accuracy.specs.Accuracy.{gap}

abbrev pub SameBound : Entry → Entry → Type 0
SameBound e f = e.bound ≡ f.bound

same_scaled : (z : ℤ) (e f : Entry) → SameBound e f → SameBound (scaled z e) (scaled z f)
unfolding scaled
same_scaled z e f p = ap (λ (b : ℤ). pos (nat_abs z) *ℤ b) p

abbrev same_bound : Preserved Entry SameBound
same_bound = record {
  nought = none;
  add = plus;
  times = scaled;
  Divided = λ d s e. e ≡ rounded d s;
  by_none = refl;
  by_plus = λ _ _ _ _ p q. ap₂ ◌+ℤ◌ p q;
  by_scaled = same_scaled;
  by_rounded = λ d e s f _ p q. subst (SameBound (rounded d e)) (sym q) (bound_alone d e s p);
}

module _ (job job' : Job) (weights : List ℕ) (same_gap : gap job.start ≡ gap job'.start) where
  -- the second job under any law and weight of severity 0: first under those of the first job, which are then exchanged for its own
  abbrev second : Law → ℕ → Job
  second law w₀ = job_of law job'.start job'.last w₀

  -- under those of the first job
  abbrev alike : Job
  alike = second job.law job.zero

  same_first : (j : ℕ) → SameBound (first_entry job.start j) (first_entry job'.start j)
  same_first zero = same_gap
  same_first (suc j) = refl

  second_follows : Follows same_bound job weights (curve_rows alike weights)
  unfolding entry_at sums_zero sums_next factor
  second_follows = record {
    first = λ j h. subst (SameBound (first_entry job.start j)) (sym (curve_rule alike weights j 0 h)) (same_first j);
    row_zero = λ x h. curve_rule alike weights 0 (suc x) h;
    row_next = λ j x h. curve_rule alike weights (suc j) (suc x) h;
  }

  pub bounds : Divisible job weights → job.law ≡ job'.law → job.zero ≡ job'.zero → (x j : ℕ) → j < job.law.order
      → SameBound (curve_rows job weights j x) (curve_rows job' weights j x)
  bounds h same_law same_zero x j l =
      subst₂ (λ law w₀. SameBound (curve_rows job weights j x) (curve_rows (second law w₀) weights j x)) same_law same_zero
      (all_preserved same_bound job weights (divisors_pos job weights h.thinned_pos h.total_pos) (curve_rows alike weights)
      second_follows x j l)
