-- Total by total: below the total that is reached the rows hold the curve, and no entry there has a fault, so the next total can be
-- computed; the run stops at the first fault or at the end, as the definition says.
use mathlib.Core.Path.{◌≡◌, sym, ap, ap₂, ◌∙◌, subst}
use mathlib.Core.Bool.{Bool, true, false, ◌||◌}
use mathlib.Core.List.{List}
use mathlib.Core.Logic.{◌⊎◌, inl, inr}
use Prim.Native.Nat.{ℕ, zero, suc, ◌+◌, ◌*◌, ◌≤◌, ◌<◌}
use native.Mathlib.Nat as NL
use native.Mathlib.Omega.{arith}
use borrow.Author.Tests.{ltb-false, lt-ltb, le-ltb}
use lib.Dec.{ltb}
use lib.IntN.{ℤ, pos, negsuc, nat_abs}
use lib.Signed.{lt_z, ◌≤ℤ◌}
use Rattle.std.specs.Prelude.{Ok, Err}
use Rattle.algebra.specs.Smallest.{FailBelow}
use Rattle.algebra.specs.Sum.{accumulate}
use Rattle.algebra.proofs.Smallest.{smallest_is, smallest_finds}
use Rattle.algebra.proofs.Sum.{accumulate_cong}
use Rattle.algebra.proofs.Or.{or_left, or_right}
use Rattle.model.specs.declared.Job.{Job}
use Rattle.model.specs.Limits.{unit}
use Rattle.enclosure.specs.Entry.{out_of_range, bound_too_large}
use Rattle.enclosure.specs.Term.{Small}
use Rattle.rows.specs.Curve.{Rows, entry_at, curve_rows}
use Rattle.rows.specs.Layout.{Lent, LongEnough, stored}
use Rattle.rows.specs.Faults.{any_row, fault_at, first_fault, range_fault}
use Rattle.rows.specs.Limits.{Limits}
use Rattle.rows.specs.Fits.{SumsFit}
use Rattle.rows.specs.Progress.{RowsKept, Advanced, Filled, fault_by, fault_below, stop_by, stop_of}
use Rattle.rows.proofs.Kept.{rows_untouched, rows_further, rows_step, long_kept}
use Rattle.rows.proofs.Recursion.{curve_rule, entry_local}
use Rattle.rows.proofs.Nonnegative.{bound_nonneg}
use Rattle.rows.proofs.Sums.{ReadyIn, sums_at_fit}

-- ---- tests over rows
any_none : (n : ℕ) (f : ℕ → Bool) → accumulate false ◌||◌ n f ≡ false → (j : ℕ) → j < n → f j ≡ false
unfolding accumulate
any_none zero f e j l = absurd (NL.not-suc-le-zero l)
any_none (suc n) f e j l = by (any_none n f (or_left (accumulate false ◌||◌ n f) (f n) e) j) (NL.eq-or-lt_of_le (NL.le_of_suc-le-suc l))
  where
    by : (j < n → f j ≡ false) → (j ≡ n) ⊎ (j < n) → f j ≡ false
    by earlier (inl p) = ap f p ∙ or_right (accumulate false ◌||◌ n f) (f n) e
    by earlier (inr k) = earlier k

-- a number that is zero or more and not above the limit
size_most : (z : ℤ) (limit : ℕ) → pos 0 ≤ℤ z → lt_z (pos limit) z ≡ false → nat_abs z ≤ limit
size_most (pos n) limit p e = ltb-false limit n e
size_most (negsuc n) limit p e = absurd p.le

-- ---- what is known where total x is reached: below it the rows hold the curve, without a fault
pub record Reached (job : Job) (weights : List ℕ) (lent₀ : Lent) (x : ℕ) (lent : Lent) : Type 0 where
  pub kept : RowsKept x (job.last + 1) lent lent₀
  pub entries : (j z : ℕ) → j < job.law.order → z < x → stored (job.last + 1) lent j z ≡ curve_rows job weights j z
  pub sound : FailBelow (fault_at job.law.order (curve_rows job weights)) x

module _ (job : Job) (weights : List ℕ) (limits : Limits job weights) where
  abbrev order : ℕ
  order = job.law.order

  abbrev curve : Rows
  curve = curve_rows job weights

  abbrev places : ℕ
  places = job.last + 1

  pub small : (j z : ℕ) → j < order → fault_at order curve z ≡ false → Small (curve j z)
  small j z l e =
      let in_range = any_none order (λ j. out_of_range (curve j z)) (or_left (any_row out_of_range order curve z) _ e) j l in
      let bounded = any_none order (λ j. bound_too_large (curve j z)) (or_right (any_row out_of_range order curve z) _ e) j l in
      record {
        low = ltb-false (2 * unit) (nat_abs (curve j z).low) (or_left _ (ltb (2 * unit) (nat_abs (curve j z).high)) in_range);
        high = ltb-false (2 * unit) (nat_abs (curve j z).high) (or_right (ltb (2 * unit) (nat_abs (curve j z).low)) _ in_range);
        bound = size_most (curve j z).bound unit (bound_nonneg job weights limits z j l) bounded;
      }

  -- ---- where the run stops
  first_is : (x : ℕ) → x ≤ places → FailBelow (fault_at order curve) x → (x < places → fault_at order curve x ≡ true)
      → first_fault job weights ≡ x
  unfolding first_fault
  first_is x h below at = smallest_is (fault_at order curve) places x h below at

  pub first_most : first_fault job weights ≤ places
  unfolding first_fault
  first_most = (smallest_finds (fault_at order curve) places).0

  -- where the run stops at total x, which is the first that has a fault
  module _ (x : ℕ) (h : x < places) (below : FailBelow (fault_at order curve) x) (fault : fault_at order curve x ≡ true) where
    pub first_here : first_fault job weights ≡ x
    first_here = first_is x (omega arith) below (λ _. fault)

    pub stop_here : Err (stop_by (any_row out_of_range order curve x) x) ≡ stop_of job weights
    unfolding range_fault
    stop_here = rw (first_here, lt-ltb x places h)

  -- and where no total has one
  module _ (below : FailBelow (fault_at order curve) places) where
    first_none : first_fault job weights ≡ places
    first_none = first_is places (NL.le_refl places) below (λ l. absurd (NL.lt_irrefl places l))

    pub stop_end : Ok tt ≡ stop_of job weights
    stop_end = rw (first_none, le-ltb places places (NL.le_refl places))

  -- ---- total by total
  pub reached_first : (lent₀ : Lent) → Reached job weights lent₀ 0 lent₀
  reached_first lent₀ = record {
    kept = rows_untouched 0 places lent₀;
    entries = λ j z h l. absurd (NL.not-suc-le-zero l);
    sound = λ z l. absurd (NL.not-suc-le-zero l);
  }

  module _ (lent₀ : Lent) (long : LongEnough places lent₀) (x : ℕ) (lent : Lent) (here : Reached job weights lent₀ x lent) where
    pub reached_ready : x < places → ReadyIn job.law weights places x lent
    reached_ready h = record {
      basis = record {
        law_limits = limits.law;
        table_limits = limits.table;
        total_most = omega (arith, limits.last_most);
        earlier = λ j z k l. subst Small (sym (here.entries j z k l)) (small j z k (here.sound z l));
      };
      long = long_kept places lent lent₀ x here.kept long;
      places_most = omega (arith, limits.last_most);
      total_below = h;
    }

    -- the rule makes the curve of the rows
    pub rule_curve : (j : ℕ) → j < order → entry_at job weights (stored places lent) j x ≡ curve j x
    rule_curve j h = entry_local job weights (stored places lent) curve j x h here.entries ∙ sym (curve_rule job weights j x h)

    pub fault_curve : fault_below order (entry_at job weights (stored places lent)) x ≡ fault_below order curve x
    fault_curve = ap₂ fault_by (accumulate_cong false ◌||◌ order (λ j l. ap out_of_range (rule_curve j l)))
        (accumulate_cong false ◌||◌ order (λ j l. ap bound_too_large (rule_curve j l)))

    module _ (lent' : Lent) (step : Advanced job weights places x order lent lent') where
      -- seen from n on
      pub step_kept : (n : ℕ) → x + 1 ≤ n → RowsKept n places lent' lent₀
      step_kept n h = rows_step places lent' lent lent₀ x n h step.kept here.kept

      -- one total more, where it has no fault
      pub reached_next : fault_at order curve x ≡ false → Reached job weights lent₀ (x + 1) lent'
      reached_next e = record {
        kept = step_kept (x + 1) (NL.le_refl (x + 1));
        entries = λ j z h l. entry j z h (NL.eq-or-lt_of_le (omega arith));
        sound = λ z l. passes z (NL.eq-or-lt_of_le (omega arith));
      }
        where
          entry : (j z : ℕ) → j < order → (z ≡ x) ⊎ (z < x) → stored places lent' j z ≡ curve j z
          entry j z h (inl p) = subst (λ (k : ℕ). stored places lent' j k ≡ curve j k) (sym p) (step.entries j h ∙ rule_curve j h)
          entry j z h (inr l) = step.earlier j z h l ∙ here.entries j z h l

          passes : (z : ℕ) → (z ≡ x) ⊎ (z < x) → fault_at order curve z ≡ false
          passes z (inl p) = ap (fault_at order curve) p ∙ e
          passes z (inr l) = here.sound z l

      -- the rows at the first total that has a fault
      pub filled_fault : x < places → fault_at order curve x ≡ true → Filled job weights lent₀ lent'
      filled_fault h e = record {
        kept = step_kept places (omega arith);
        entries = λ j z k l.
            let earlier : z < x = rw (first_here x h here.sound e) at l in
            step.earlier j z k earlier ∙ here.entries j z k earlier;
      }

    -- the rows at the end
    pub filled_end : x ≡ places → Filled job weights lent₀ lent
    filled_end e = record {
      kept = rows_further places lent lent₀ x places (NL.le_of_eq e) here.kept;
      entries = λ j z k l. here.entries j z k (NL.lt_of_lt_of_le l (rw e (first_most)));
    }

-- the sums of a total are those of a basis: the entries at earlier totals have no fault
pub sums_fit : SumsFit
sums_fit job weights limits x h sound j l = sums_at_fit job.law weights (suc x) (curve_rows job weights) (record {
  law_limits = limits.law;
  table_limits = limits.table;
  total_most = omega (arith, limits.last_most);
  earlier = λ i z k m. small job weights limits i z k (sound z m);
}) j l
