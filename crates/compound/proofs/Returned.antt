-- What the call returns, by how far it came: refused by the checks, refused at a total, or accepted.
use mathlib.Core.Path.{◌≡◌, refl, sym, ap, ◌∙◌}
use mathlib.Core.Bool.{Bool, true, false, cond}
use mathlib.Core.List.{List, [], ◌++◌}
use Prim.Native.Nat.{ℕ, ◌+◌, ◌≤◌, ◌<◌}
use native.Mathlib.Nat.{lt_of_lt_of_le}
use borrow.Author.Tests.{lt-ltb, le-ltb, ltb-true, ltb-false}
use lib.Dec.{ltb, eqb}
use lib.IntN.{ℤ, pos}
use lib.ListN.{length, get_or, replicate, length-replicate}
use Rattle.std.specs.Prelude.{Result, Ok, Err, ⊤}
use Rattle.algebra.specs.Slice.{listed, written}
use Rattle.model.specs.declared.Job.{Job}
use Rattle.model.specs.declared.refusal.Refusal.{Refusal}
use Rattle.model.specs.Answer.{Condition, accepted, refused, is_accepted, first_refusal}
use Rattle.model.proofs.Answer.{first_none, first_holds, first_fails, step_refuses, step_accepts}
use Rattle.model.specs.Mark.{mark_of}
use Rattle.enclosure.specs.declared.Entry.{Entry}
use Rattle.enclosure.specs.Term.{entry_of}
use Rattle.rows.specs.declared.fill.Stop.{Stop}
use Rattle.rows.specs.declared.fill.Fault.TheVariants.{Range as RangeFault, Bound as BoundFault}
use Rattle.rows.specs.Curve.{curve_rows}
use Rattle.rows.specs.Exact.{curve_marks}
use Rattle.rows.specs.Faults.{first_fault, range_fault}
use Rattle.rows.specs.Layout.{work_places}
use Rattle.rows.specs.Progress.{Kept, Filled, MarksFilled, stop_by, stop_of}
use Rattle.rows.proofs.Kept.{kept_written, kept_listed}
use Rattle.compound.specs.Lent.{Lent, lent_rows, entries_of, LongEnough}
use Rattle.compound.specs.declared.Reason.{Reason}
use Rattle.compound.specs.declared.Reason.TheVariants.{Order, Divisor, Term, Start, Severities, Weights}
use Rattle.compound.specs.declared.Reason.TheVariants.{ZeroOrder, ZeroDivisor, OnlyZeros, Last, Places, Range, Bound}
use Rattle.compound.specs.Call.{number_of, reason_of, paper, checks, faults, curve_answer, row_after, ran, curve_lent}

same_lent_lem : {l l' h h' b b' m m' w w' : List ℤ} → l ≡ l' → h ≡ h' → b ≡ b' → m ≡ m' → w ≡ w'
    → lent_rows l h b m w ≡ lent_rows l' h' b' m' w'
same_lent_lem p q r s t = λ i. lent_rows (p i) (q i) (r i) (s i) (t i)

-- ---- answers of the code
-- no reason has the acceptance's number
pub reason_refuses : (r : Reason) → eqb (number_of r) 0 ≡ false
reason_refuses Order = refl
reason_refuses Divisor = refl
reason_refuses Term = refl
reason_refuses Start = refl
reason_refuses Severities = refl
reason_refuses Weights = refl
reason_refuses ZeroOrder = refl
reason_refuses ZeroDivisor = refl
reason_refuses OnlyZeros = refl
reason_refuses Last = refl
reason_refuses Places = refl
reason_refuses Range = refl
reason_refuses Bound = refl

-- two lists, one after the other: a refusal by the first is that of both
pub refused_first : {A : Type 0} (cs ds : List Condition) (r : Result A (Refusal Reason)) (e : Refusal Reason)
    → r ≡ Err e → refused (number_of e.reason) e.place ≡ first_refusal cs → paper r ≡ first_refusal (cs ++ ds)
refused_first {A} cs ds r e err is =
    ap (paper {A = A}) err ∙ step_refuses cs ds (number_of e.reason) e.place (reason_refuses e.reason) is

-- ---- by the checks
module _ (job : Job) (weights : List ℕ) (lent : Lent) where
  by_checks : (b : Bool) → is_accepted (first_refusal (checks job weights lent)) ≡ b
      → cond b (ran job weights lent) lent ≡ curve_lent job weights lent
  unfolding curve_lent
  by_checks b e = ap (λ (t : Bool). cond t (ran job weights lent) lent) (sym e)

  -- refused by the checks
  pub early_answer : {A : Type 0} (r : Result A (Refusal Reason)) (e : Refusal Reason) → r ≡ Err e
      → refused (number_of e.reason) e.place ≡ first_refusal (checks job weights lent) → paper r ≡ curve_answer job weights lent
  unfolding curve_answer
  early_answer r e err is = refused_first (checks job weights lent) (faults job weights) r e err is

  pub early_rows : (e : Refusal Reason) → refused (number_of e.reason) e.place ≡ first_refusal (checks job weights lent)
      → lent ≡ curve_lent job weights lent
  early_rows e is = by_checks false (ap is_accepted (sym is) ∙ reason_refuses e.reason)

  -- past the checks
  module _ (passed : accepted ≡ first_refusal (checks job weights lent)) where
    pub late_answer : first_refusal (faults job weights) ≡ curve_answer job weights lent
    unfolding curve_answer
    late_answer = step_accepts (checks job weights lent) (faults job weights) tt passed

    pub late_rows : ran job weights lent ≡ curve_lent job weights lent
    late_rows = by_checks true (ap is_accepted (sym passed))

-- ---- by the totals
module _ (job : Job) (weights : List ℕ) where
  abbrev places : ℕ
  places = job.last + 1

  -- what the front of a row holds, by the answer of the totals
  row_after_lem : (number : ℕ → ℤ) (b : Bool) → is_accepted (first_refusal (faults job weights)) ≡ b
      → cond b (listed number places) (replicate places (pos 0)) ≡ row_after number job weights
  unfolding row_after
  row_after_lem number b e = ap (λ (t : Bool). cond t (listed number places) (replicate places (pos 0))) (sym e)

  -- refused at a total
  module _ (stop : Stop) (stops : Err stop ≡ stop_of job weights) where
    abbrev Found : Type 0
    Found = (first_fault job weights < places) × (stop.total ≡ first_fault job weights)
        × (number_of (reason_of stop.fault) ≡ cond (range_fault job weights) 9 10)

    found : Found
    found = by (ltb (first_fault job weights) places) refl stops
      where
        number : (range : Bool) → number_of (reason_of (cond range RangeFault BoundFault)) ≡ cond range 9 10
        number true = refl
        number false = refl

        by : (b : Bool) → ltb (first_fault job weights) places ≡ b
            → Err stop ≡ cond {A = Result ⊤ Stop} b (Err (stop_by (range_fault job weights) (first_fault job weights))) (Ok tt)
            → Found
        by true here e =
            let same : stop ≡ stop_by (range_fault job weights) (first_fault job weights) = cc in (
              ltb-true (first_fault job weights) places here,
              ap (λ (s : Stop). s.total) same,
              ap (λ (s : Stop). number_of (reason_of s.fault)) same ∙ number (range_fault job weights),
            )
        by false here e = cc

    by_range : (range : Bool) → range_fault job weights ≡ range
        → first_refusal (faults job weights) ≡ refused (cond range 9 10) (first_fault job weights)
    by_range true e = first_holds _ _ e
    by_range false e = first_fails _ _ e ∙ first_holds _ _ (lt-ltb _ _ found.0)

    pub fault_answer : refused (number_of (reason_of stop.fault)) stop.total ≡ first_refusal (faults job weights)
    fault_answer = (λ i. refused (found.2 i) (found.1 i)) ∙ sym (by_range (range_fault job weights) refl)

    fault_refuses : is_accepted (first_refusal (faults job weights)) ≡ false
    fault_refuses = ap is_accepted (sym fault_answer) ∙ reason_refuses (reason_of stop.fault)

  -- accepted
  module _ (ends : Ok tt ≡ stop_of job weights) where
    none_found : places ≤ first_fault job weights
    none_found = by (ltb (first_fault job weights) places) refl ends
      where
        by : (b : Bool) → ltb (first_fault job weights) places ≡ b
            → Ok tt ≡ cond {A = Result ⊤ Stop} b (Err (stop_by (range_fault job weights) (first_fault job weights))) (Ok tt)
            → places ≤ first_fault job weights
        by true past e = cc
        by false past e = ltb-false (first_fault job weights) places past

    pub end_answer : accepted ≡ first_refusal (faults job weights)
    unfolding range_fault
    end_answer =
        let past = le-ltb (first_fault job weights) places none_found in
        sym (first_fails _ _ (rw past) ∙ first_fails _ [] past ∙ first_none)

  -- what the lent rows hold
  module _ (lent₀ lent : Lent) (filled : Filled job weights (entries_of lent₀) (entries_of lent))
      (marked : MarksFilled job weights lent₀.mark lent.mark lent.work) (n : ℕ) (all : n ≡ places) (work : List ℤ)
      (clear : work ≡ written (replicate (work_places n) (pos 0)) lent.work) where
    zeros : (row row₀ : List ℤ) (k k' : ℕ) → k ≡ k' → Kept k' row row₀
        → written (replicate k (pos 0)) row ≡ written (replicate k' (pos 0)) row₀
    zeros row row₀ k k' e kept = ap (λ (m : ℕ). written (replicate m (pos 0)) row) e
        ∙ kept_written (replicate k' (pos 0)) row row₀ k' (length-replicate k' (pos 0)) kept

    work_zeros : work ≡ written (replicate (work_places places) (pos 0)) lent₀.work
    work_zeros = clear ∙ zeros _ _ (work_places n) (work_places places) (ap work_places all) filled.kept.work

    -- refused at a total: the rows were cleared
    module _ (stop : Stop) (stops : Err stop ≡ stop_of job weights) where
      cleared : (number : ℕ → ℤ) (row row₀ : List ℤ) → Kept places row row₀
          → written (replicate n (pos 0)) row ≡ written (row_after number job weights) row₀
      cleared number row row₀ k =
          zeros row row₀ n places all k
          ∙ ap (λ (front : List ℤ). written front row₀) (row_after_lem number false (fault_refuses stop stops))

      pub fault_rows : (low high bound mark : List ℤ) → low ≡ written (replicate n (pos 0)) lent.low
          → high ≡ written (replicate n (pos 0)) lent.high → bound ≡ written (replicate n (pos 0)) lent.bound
          → mark ≡ written (replicate n (pos 0)) lent.mark
          → lent_rows low high bound mark work ≡ ran job weights lent₀
      fault_rows low high bound mark p q r s =
          same_lent_lem (p ∙ cleared (λ z. (curve_rows job weights 0 z).low) _ _ filled.kept.low)
          (q ∙ cleared (λ z. (curve_rows job weights 0 z).high) _ _ filled.kept.high)
          (r ∙ cleared (λ z. (curve_rows job weights 0 z).bound) _ _ filled.kept.bound)
          (s ∙ cleared (λ z. mark_of (curve_marks job weights 0 z)) _ _ marked.kept) work_zeros

    -- accepted: the rows hold row 0
    module _ (long : LongEnough places lent₀) (one : 1 ≤ job.law.order) (ends : Ok tt ≡ stop_of job weights) where
      shown : (z : ℕ) → z < places → entry_of lent.low lent.high lent.bound z ≡ curve_rows job weights 0 z
      shown z l = filled.entries 0 z one (lt_of_lt_of_le l (none_found ends))

      held : (number : ℕ → ℤ) (row row₀ : List ℤ) → places ≤ length row₀ → Kept places row row₀
          → ((z : ℕ) → z < places → get_or row z (pos 0) ≡ number z) → row ≡ written (row_after number job weights) row₀
      held number row row₀ enough k at = kept_listed number row row₀ places enough k at
          ∙ ap (λ (front : List ℤ). written front row₀) (row_after_lem number true (ap is_accepted (sym (end_answer ends))))

      pub end_rows : lent_rows lent.low lent.high lent.bound lent.mark work ≡ ran job weights lent₀
      end_rows =
          same_lent_lem
          (held (λ z. (curve_rows job weights 0 z).low) _ _ long.entries.low_long filled.kept.low
          (λ z l. ap (λ (e : Entry). e.low) (shown z l)))
          (held (λ z. (curve_rows job weights 0 z).high) _ _ long.entries.high_long filled.kept.high
          (λ z l. ap (λ (e : Entry). e.high) (shown z l)))
          (held (λ z. (curve_rows job weights 0 z).bound) _ _ long.entries.bound_long filled.kept.bound
          (λ z l. ap (λ (e : Entry). e.bound) (shown z l)))
          (held (λ z. mark_of (curve_marks job weights 0 z)) _ _ long.mark_long marked.kept
          (λ z l. marked.marks 0 z one (lt_of_lt_of_le l (none_found ends))))
          work_zeros
