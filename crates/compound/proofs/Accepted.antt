-- What an acceptance says: every check was passed and no entry has a fault, so the lent rows are long enough, and hold row 0 of the curve,
-- whose entries are small.
use mathlib.Core.Path.{◌≡◌, sym, ◌∙◌, ap, subst}
use mathlib.Core.Bool.{Bool, cond}
use mathlib.Core.List.{List, []}
use Prim.Native.Nat.{ℕ, ◌+◌, ◌≤◌, ◌<◌}
use native.Mathlib.Nat as NL
use native.Mathlib.Omega.{arith}
use borrow.Author.Tests.{ltb-false}
use lib.IntN.{ℤ, pos}
use lib.ListN.{length, get_or, drop, get_or-append}
use Rattle.algebra.specs.Slice.{listed, written}
use Rattle.algebra.specs.Smallest.{FailBelow}
use Rattle.algebra.proofs.Slice.{listed_length, listed_at, written_length}
use Rattle.algebra.proofs.Smallest.{smallest_finds}
use Rattle.model.specs.declared.Job.{Job}
use Rattle.model.specs.Answer.{accepted, first_refusal}
use Rattle.model.proofs.Answer.{none_holds, first_passed}
use Rattle.model.specs.Mark.{mark_of}
use Rattle.enclosure.specs.declared.Entry.{Entry}
use Rattle.enclosure.specs.Term.{entry_of, Small}
use Rattle.rows.specs.Curve.{curve_rows}
use Rattle.rows.specs.Exact.{curve_marks}
use Rattle.rows.specs.Faults.{fault_at, first_fault}
use Rattle.rows.specs.Limits.{Limits}
use Rattle.rows.proofs.Filled.{small}
use Rattle.compound.specs.Lent.{Lent, LongEnough}
use Rattle.compound.specs.Call.{checks, faults, curve_answer, row_after, ran, curve_lent}
use Rattle.compound.proofs.Call.{checked_limits, zeros_refused}

module _ (job : Job) (weights : List ℕ) (lent : Lent) (ok : curve_answer job weights lent ≡ accepted) where
  passed : Limits job weights × LongEnough (job.last + 1) lent × (first_refusal (faults job weights) ≡ accepted)
  unfolding curve_answer
  passed = checked_limits job weights lent (faults job weights) ok

  pub limits : Limits job weights
  limits = passed.0

  pub no_zeros : 1 < job.law.order → job.zero ≡ 0
  unfolding curve_answer
  no_zeros = zeros_refused job weights lent (faults job weights) ok

  pub no_fault : FailBelow (fault_at job.law.order (curve_rows job weights)) (job.last + 1)
  unfolding first_fault
  no_fault =
      let ten = (none_holds (faults job weights) [] tt passed.2).0 10 in
      λ x l. (smallest_finds (fault_at job.law.order (curve_rows job weights)) (job.last + 1)).1 x
      (NL.lt_of_lt_of_le l (ltb-false _ _ ten))

  lent_ran : curve_lent job weights lent ≡ ran job weights lent
  unfolding curve_answer curve_lent
  lent_ran = ap (λ (t : Bool). cond t (ran job weights lent) lent) (first_passed (checks job weights lent) (faults job weights) tt ok)

  -- numbers by total, from total 0 to X
  row_listed : (number : ℕ → ℤ) → row_after number job weights ≡ listed number (job.last + 1)
  unfolding row_after
  row_listed number = rw passed.2

  row_at : (number : ℕ → ℤ) (row : List ℤ) (x : ℕ) → x ≤ job.last
      → get_or (written (row_after number job weights) row) x (pos 0) ≡ number x
  row_at number row x l =
      ap (λ (front : List ℤ). get_or (written front row) x (pos 0)) (row_listed number)
      ∙ get_or-append (listed number (job.last + 1)) (drop (length (listed number (job.last + 1))) row) (pos 0) x
      (omega (arith, listed_length number (job.last + 1)))
      ∙ listed_at number (job.last + 1) x (pos 0) (omega arith)

  -- the entry at total x of the lent rows on return
  abbrev returned : ℕ → Entry
  returned = entry_of (curve_lent job weights lent).low (curve_lent job weights lent).high (curve_lent job weights lent).bound

  pub shows : (x : ℕ) → x ≤ job.last → returned x ≡ curve_rows job weights 0 x
  shows x l = rw lent_ran (λ i. record {
    low = row_at (λ z. (curve_rows job weights 0 z).low) lent.low x l i;
    high = row_at (λ z. (curve_rows job weights 0 z).high) lent.high x l i;
    bound = row_at (λ z. (curve_rows job weights 0 z).bound) lent.bound x l i;
  })

  -- and its mark
  pub shows_mark : (x : ℕ) → x ≤ job.last → get_or (curve_lent job weights lent).mark x (pos 0) ≡ mark_of (curve_marks job weights 0 x)
  shows_mark x l = rw lent_ran (row_at (λ z. mark_of (curve_marks job weights 0 z)) lent.mark x l)

  pub entry_small : (x : ℕ) → x < job.last + 1 → Small (returned x)
  entry_small x l = subst Small (sym (shows x (omega arith))) (small job weights limits 0 x limits.law.order_least (no_fault x l))

  -- a lent row that is long enough still is on return
  row_long : (number : ℕ → ℤ) (row : List ℤ) → job.last + 1 ≤ length row
      → job.last + 1 ≤ length (written (row_after number job weights) row)
  row_long number row h = rw (
    row_listed number,
    written_length (listed number (job.last + 1)) row (omega (arith, listed_length number (job.last + 1))),
  ) h

  pub lows_long : job.last + 1 ≤ length (curve_lent job weights lent).low
  lows_long = rw lent_ran (row_long (λ z. (curve_rows job weights 0 z).low) lent.low passed.1.entries.low_long)

  pub highs_long : job.last + 1 ≤ length (curve_lent job weights lent).high
  highs_long = rw lent_ran (row_long (λ z. (curve_rows job weights 0 z).high) lent.high passed.1.entries.high_long)
