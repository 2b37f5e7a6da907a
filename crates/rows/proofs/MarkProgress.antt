-- Marks, put row by row at one total and total by total: each is the rule's, and the entries stay as they are.
use mathlib.Core.Path.{◌≡◌, refl, sym, ap, ◌∙◌, subst}
use mathlib.Core.Bool.{Bool, true}
use mathlib.Core.List.{List}
use mathlib.Core.Logic.{◌⊎◌, inl, inr}
use Prim.Native.Nat.{ℕ, zero, suc, ◌+◌, ◌≤◌, ◌<◌}
use native.Mathlib.Nat as NL
use native.Mathlib.Omega.{arith}
use lib.IntN.{ℤ}
use lib.ListN.{length}
use Rattle.model.specs.declared.Job.{Job}
use Rattle.model.specs.Mark.{mark_of, is_exact}
use Rattle.enclosure.specs.declared.Entry.{Entry}
use Rattle.enclosure.specs.declared.marks.Settled.{Settled}
use Rattle.enclosure.proofs.Exact.{mark_exact}
use Rattle.rows.specs.Curve.{entry_at, curve_rows}
use Rattle.rows.specs.Exact.{lows, highs, exact_at, curve_marks}
use Rattle.rows.specs.Faults.{fault_at}
use Rattle.rows.specs.Layout.{Lent, lent_rows, LongEnough, work_places, stored, placed}
use Rattle.rows.specs.Layout.{stored_numbers, stored_marks, mark_put, work_put, marks_at}
use Rattle.rows.specs.Limits.{Limits}
use Rattle.rows.specs.Progress.{Kept, Advanced, MarksAdvanced, MarksFilled, SettledRows, settled_after}
use Rattle.rows.proofs.Kept.{kept_set, kept_same, kept_further, kept_then}
use Rattle.rows.proofs.MarkRule.{exact_local, mark_rule}
use Rattle.rows.proofs.MarkStored.{marks_within, placed_marks, marked_stored, marked_other, marked_own}
use Rattle.rows.proofs.Known.{settled_same, settled_next}
use Rattle.rows.proofs.Sums.{ReadyIn}
use Rattle.rows.proofs.Filled.{Reached, rule_curve, first_here, first_most}

-- ---- at one total
module _ (job : Job) (weights : List ℕ) (places x : ℕ) (lent₀ : Lent) (ready : ReadyIn job.law weights places x lent₀) where
  row_most : {i : ℕ} → i < job.law.order → i ≤ 3
  row_most l = omega (arith, ready.basis.law_limits.order_most)

  -- a mark leaves the entries as they are
  pub advanced_marked : (n : ℕ) → n ≤ job.law.order → (lent : Lent) → Advanced job weights places x n lent₀ lent
      → (j : ℕ) → j < job.law.order → (exact : Bool)
      → Advanced job weights places x n lent₀ (lent_rows lent.low lent.high lent.bound (work_put places lent.work j x exact))
  advanced_marked n h lent so_far j l exact = record {
    kept = record {
      low = so_far.kept.low;
      high = so_far.kept.high;
      bound = so_far.kept.bound;
      work = work_kept j (row_most l);
    };
    earlier = λ i z k m.
        marked_stored places j x exact ready.total_below lent.low lent.high lent.bound lent.work i z (row_most k)
        (omega (arith, ready.total_below)) ∙ so_far.earlier i z k m;
    entries = λ i k.
        marked_stored places j x exact ready.total_below lent.low lent.high lent.bound lent.work i x
        (row_most (NL.lt_of_lt_of_le k h)) ready.total_below ∙ so_far.entries i k;
  }
    where
      work_kept : (j : ℕ) → j ≤ 3 → Kept (work_places places) (work_put places lent.work j x exact) lent₀.work
      work_kept zero k = so_far.kept.work
      work_kept (suc j) k = kept_set _ _ _ (marks_at places j + x) (mark_of exact)
          (omega (arith, marks_within places j (omega arith), ready.total_below)) so_far.kept.work

  module _ (mark₀ : List ℤ) where
    abbrev Marked : ℕ → List ℤ → List ℤ → Type 0
    Marked n mark work = MarksAdvanced job weights places x n (stored places lent₀) mark₀ lent₀.work mark work

    pub marks_first : Marked 0 mark₀ lent₀.work
    marks_first = record {
      kept = kept_same;
      earlier = λ j z h l. refl;
      marks = λ j h. absurd (NL.not-suc-le-zero h);
    }

    module _ (n : ℕ) (h : n < job.law.order) (lent : Lent) (advanced : Advanced job weights places x n lent₀ lent) (mark : List ℤ)
        (so_far : Marked n mark lent.work) where
      -- the rule, from the rows and marks as they are and as they were
      pub exact_same : exact_at job weights (stored places lent) (stored_marks places mark lent.work) n x
          ≡ exact_at job weights (stored places lent₀) (stored_marks places mark₀ lent₀.work) n x
      exact_same = exact_local job weights _ _ _ _ n x h advanced.earlier
          (λ j z k l. ap is_exact (so_far.earlier j z k l))

      -- one row more
      pub marks_put : places ≤ length mark → (e : Entry) → work_places places ≤ length (placed places lent n x e).work → (exact : Bool)
          → exact ≡ exact_at job weights (stored places lent) (stored_marks places mark lent.work) n x
          → Marked (n + 1) (mark_put mark n x exact) (work_put places (placed places lent n x e).work n x exact)
      marks_put long e room exact rule = record {
        kept = mark_kept n;
        earlier = λ j z k l. other j z (omega (arith, ready.total_below)) (λ p q. omega arith) ∙ so_far.earlier j z k l;
        marks = λ j l. by j (NL.eq-or-lt_of_le (omega arith));
      }
        where
          hx : x < places
          hx = ready.total_below

          mark_kept : (n : ℕ) → Kept (x + 1) (mark_put mark n x exact) mark₀
          mark_kept zero = kept_set (x + 1) mark mark₀ x (mark_of exact) (omega arith) so_far.kept
          mark_kept (suc n) = so_far.kept

          other : (j z : ℕ) → z < places → (j ≡ n → z ≡ x → ⊥)
              → stored_numbers places (mark_put mark n x exact) (work_put places (placed places lent n x e).work n x exact) j z
              ≡ stored_numbers places mark lent.work j z
          other j z hz apart = marked_other places n x exact hx mark (placed places lent n x e).work j z hz apart
              ∙ placed_marks places mark lent n x e j z (row_most h) hx hz

          by : (j : ℕ) → (j ≡ n) ⊎ (j < n)
              → stored_numbers places (mark_put mark n x exact) (work_put places (placed places lent n x e).work n x exact) j x
              ≡ mark_of (exact_at job weights (stored places lent₀) (stored_marks places mark₀ lent₀.work) j x)
          by j (inl p) = subst (λ (k : ℕ). stored_numbers places (mark_put mark n x exact)
              (work_put places (placed places lent n x e).work n x exact) k x
              ≡ mark_of (exact_at job weights (stored places lent₀) (stored_marks places mark₀ lent₀.work) k x)) (sym p)
              (marked_own places n x exact hx mark (placed places lent n x e).work (row_most h) long room ∙ ap mark_of (rule ∙ exact_same))
          by j (inr l) = other j x hx (λ p q. omega arith) ∙ so_far.marks j l

-- ---- total by total
-- below total x the marks are the curve's
pub record MarksReached (job : Job) (weights : List ℕ) (mark₀ : List ℤ) (x : ℕ) (mark work : List ℤ) : Type 0 where
  pub kept : Kept x mark mark₀
  pub marks : (j z : ℕ) → j < job.law.order → z < x → stored_numbers (job.last + 1) mark work j z ≡ mark_of (curve_marks job weights j z)

-- what is known of the curve below total x
module _ (job : Job) (weights : List ℕ) where
  abbrev pub CurveKnown : Settled → ℕ → Type 0
  CurveKnown s x = SettledRows s job.law.order x (lows (curve_rows job weights)) (highs (curve_rows job weights)) (curve_marks job weights)

  pub known_none : CurveKnown (record { exact = 0; equal = 0 }) 0
  known_none = record {
    row = λ j h. record {
      exact_most = NL.le_refl 0;
      equal_most = NL.le_refl 0;
      exact_from = λ z l m. absurd (NL.not-suc-le-zero m);
      equal_from = λ z l m. absurd (NL.not-suc-le-zero m);
    };
  }

module _ (job : Job) (weights : List ℕ) (mark₀ : List ℤ) where
  pub marks_none : (work : List ℤ) → MarksReached job weights mark₀ 0 mark₀ work
  marks_none work = record { kept = kept_same; marks = λ j z h l. absurd (NL.not-suc-le-zero l) }

  module _ (limits : Limits job weights) (lent₀ : Lent) (x : ℕ) (lent : Lent) (reached : Reached job weights lent₀ x lent)
      (mark : List ℤ) (here : MarksReached job weights mark₀ x mark lent.work) where
    -- the rule makes the marks of the curve
    exact_curve : (j : ℕ) → j < job.law.order
        → exact_at job weights (stored (job.last + 1) lent) (stored_marks (job.last + 1) mark lent.work) j x ≡ curve_marks job weights j x
    exact_curve j h =
        exact_local job weights _ (curve_rows job weights) _ (curve_marks job weights) j x h reached.entries
        (λ i z k l. ap is_exact (here.marks i z k l) ∙ mark_exact (curve_marks job weights i z))
        ∙ sym (mark_rule job weights j x h)

    -- what is known of the curve is known of the rows
    pub known_stored : (s : Settled) → CurveKnown job weights s x
        → SettledRows s job.law.order x (lows (stored (job.last + 1) lent)) (highs (stored (job.last + 1) lent))
        (stored_marks (job.last + 1) mark lent.work)
    known_stored s known = settled_same job.law.order x s _ _ _ _ _ _
        (λ j z h l. ap (λ (e : Entry). e.low) (reached.entries j z h l))
        (λ j z h l. ap (λ (e : Entry). e.high) (reached.entries j z h l))
        (λ j z h l. ap is_exact (here.marks j z h l) ∙ mark_exact (curve_marks job weights j z)) known

    -- and with one total more
    pub known_next : LongEnough (job.last + 1) lent₀ → (s s' : Settled) → CurveKnown job weights s x
        → s' ≡ settled_after job.law.order s x
        (exact_at job weights (stored (job.last + 1) lent) (stored_marks (job.last + 1) mark lent.work))
        (entry_at job weights (stored (job.last + 1) lent)) → CurveKnown job weights s' (x + 1)
    known_next long s s' known e =
        let entry = rule_curve job weights limits lent₀ long x lent reached in
        subst (λ (s : Settled). CurveKnown job weights s (x + 1)) (sym e)
        (settled_next job.law.order x s _ _ _
        (exact_at job weights (stored (job.last + 1) lent) (stored_marks (job.last + 1) mark lent.work))
        (entry_at job weights (stored (job.last + 1) lent)) exact_curve (λ j h. ap (λ (e : Entry). e.low) (entry j h))
        (λ j h. ap (λ (e : Entry). e.high) (entry j h)) known)

    module _ (mark' work' : List ℤ) (step : MarksAdvanced job weights (job.last + 1) x job.law.order (stored (job.last + 1) lent)
        mark lent.work mark' work') where
      pub marks_kept : (n : ℕ) → x + 1 ≤ n → Kept n mark' mark₀
      marks_kept n h = kept_then n mark' mark mark₀ (kept_further (x + 1) n _ _ h step.kept)
          (kept_further x n _ _ (omega arith) here.kept)

      -- one total more
      pub marks_next : MarksReached job weights mark₀ (x + 1) mark' work'
      marks_next = record {
        kept = marks_kept (x + 1) (NL.le_refl (x + 1));
        marks = λ j z h l. by j z h (NL.eq-or-lt_of_le (omega arith));
      }
        where
          by : (j z : ℕ) → j < job.law.order → (z ≡ x) ⊎ (z < x)
              → stored_numbers (job.last + 1) mark' work' j z ≡ mark_of (curve_marks job weights j z)
          by j z h (inl p) =
              subst (λ (k : ℕ). stored_numbers (job.last + 1) mark' work' j k ≡ mark_of (curve_marks job weights j k)) (sym p)
              (step.marks j h ∙ ap mark_of (exact_curve j h))
          by j z h (inr l) = step.earlier j z h l ∙ here.marks j z h l

      -- the marks at the first total that has a fault
      pub marks_fault : x < job.last + 1 → fault_at job.law.order (curve_rows job weights) x ≡ true
          → MarksFilled job weights mark₀ mark' work'
      marks_fault h e = record {
        kept = marks_kept (job.last + 1) (omega arith);
        marks = λ j z k l.
            let earlier : z < x = rw (first_here job weights limits x h reached.sound e) at l in
            step.earlier j z k earlier ∙ here.marks j z k earlier;
      }

    -- and at the end
    pub marks_end : x ≡ job.last + 1 → MarksFilled job weights mark₀ mark lent.work
    marks_end e = record {
      kept = kept_further x (job.last + 1) mark mark₀ (NL.le_of_eq e) here.kept;
      marks = λ j z k l. here.marks j z k (NL.lt_of_lt_of_le l (rw e (first_most job weights limits)));
    }
