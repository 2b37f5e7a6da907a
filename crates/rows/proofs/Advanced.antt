-- The entries of one total, put row by row: what was there at earlier totals stays, so each entry is the rule's for the rows at the start.
use mathlib.Core.Path.{◌≡◌, refl, sym, ap₂, ◌∙◌, subst}
use mathlib.Core.Bool.{Bool, false, ◌||◌}
use mathlib.Core.List.{List}
use mathlib.Core.Logic.{◌⊎◌, inl, inr}
use Prim.Native.Nat.{ℕ, zero, suc, ◌+◌, ◌≤◌, ◌<◌}
use native.Mathlib.Nat as NL
use native.Mathlib.Omega.{arith}
use lib.Dec.{lit≤}
use Rattle.algebra.proofs.Sum.{accumulate_zero, accumulate_next}
use Rattle.model.specs.declared.Job.{Job}
use Rattle.enclosure.specs.declared.Entry.{Entry}
use Rattle.enclosure.specs.Term.{Small}
use Rattle.rows.specs.Curve.{Rows, entry_at}
use Rattle.rows.specs.Layout.{Lent, work_places, column_at, stored, placed}
use Rattle.rows.specs.Faults.{any_row}
use Rattle.rows.specs.Progress.{RowsKept, Advanced}
use Rattle.rows.proofs.Kept.{kept_set, rows_untouched, long_kept}
use Rattle.rows.proofs.Recursion.{entry_local}
use Rattle.rows.proofs.Stored.{Reachable, column_within, placed_other, placed_own}
use Rattle.rows.proofs.Sums.{ReadyIn, reachable}

module _ (job : Job) (weights : List ℕ) (places x : ℕ) (lent₀ : Lent) (ready : ReadyIn job.law weights places x lent₀) where
  pub advanced_first : Advanced job weights places x 0 lent₀ lent₀
  advanced_first = record {
    kept = rows_untouched (x + 1) places lent₀;
    earlier = λ j z h l. refl;
    entries = λ j h. absurd (NL.not-suc-le-zero h);
  }

  module _ (n : ℕ) (lent : Lent) (so_far : Advanced job weights places x n lent₀ lent) where
    -- the rows still have room, and no earlier entry has a fault
    pub advanced_ready : ReadyIn job.law weights places x lent
    advanced_ready = record {
      basis = record {
        law_limits = ready.basis.law_limits;
        table_limits = ready.basis.table_limits;
        total_most = ready.basis.total_most;
        earlier = λ j z h l. subst Small (sym (so_far.earlier j z h l)) (ready.basis.earlier j z h l);
      };
      long = long_kept places lent lent₀ (x + 1) so_far.kept ready.long;
      places_most = ready.places_most;
      total_below = ready.total_below;
    }

    -- an entry of the rule, from the rows as they are and as they were
    pub entry_same : (j : ℕ) → j < job.law.order
        → entry_at job weights (stored places lent) j x ≡ entry_at job weights (stored places lent₀) j x
    entry_same j h = entry_local job weights (stored places lent) (stored places lent₀) j x h so_far.earlier

    placed_kept : (j : ℕ) (e : Entry) → Reachable places x lent j → RowsKept (x + 1) places (placed places lent j x e) lent₀
    placed_kept zero e h = record {
      low = kept_set (x + 1) lent.low lent₀.low x e.low (omega arith) so_far.kept.low;
      high = kept_set (x + 1) lent.high lent₀.high x e.high (omega arith) so_far.kept.high;
      bound = kept_set (x + 1) lent.bound lent₀.bound x e.bound (omega arith) so_far.kept.bound;
      work = so_far.kept.work;
    }
    placed_kept (suc j) e h =
        record {
          low = so_far.kept.low;
          high = so_far.kept.high;
          bound = so_far.kept.bound;
          work = kept_set _ _ _ (column_at places j 2 + x) e.bound (inside 2 (lit≤ tt))
              (kept_set _ _ _ (column_at places j 1 + x) e.high (inside 1 (lit≤ tt))
              (kept_set _ _ _ (column_at places j 0 + x) e.low (inside 0 (lit≤ tt)) so_far.kept.work));
        }
      where
        inside : (m : ℕ) → m ≤ 2 → column_at places j m + x < work_places places
        inside m k = omega (arith, column_within places j m (omega (arith, h.row_most)) k, h.total_below)

    -- one row more
    pub advanced_put : n < job.law.order → (e : Entry) → e ≡ entry_at job weights (stored places lent) n x
        → Advanced job weights places x (n + 1) lent₀ (placed places lent n x e)
    advanced_put h e rule =
        let reach = reachable job.law weights x places lent advanced_ready n h in
        record {
          kept = placed_kept n e reach;
          earlier = λ j z k l.
              placed_other places lent x e n j z reach.total_below (omega (arith, reach.total_below)) (λ p q. omega arith)
              ∙ so_far.earlier j z k l;
          entries = λ j l. by reach j (NL.eq-or-lt_of_le (omega arith));
        }
      where
        by : Reachable places x lent n → (j : ℕ) → (j ≡ n) ⊎ (j < n)
            → stored places (placed places lent n x e) j x ≡ entry_at job weights (stored places lent₀) j x
        by reach j (inl p) = subst
            (λ (k : ℕ). stored places (placed places lent n x e) k x ≡ entry_at job weights (stored places lent₀) k x) (sym p)
            (placed_own places lent x e n reach ∙ rule ∙ entry_same n h)
        by reach j (inr l) =
            placed_other places lent x e n j x reach.total_below reach.total_below (λ p q. omega arith) ∙ so_far.entries j l

-- ---- faults, noted row by row
module _ (fault : Entry → Bool) (rows : Rows) (x : ℕ) where
  pub fault_none : false ≡ any_row fault 0 rows x
  fault_none = sym (accumulate_zero false ◌||◌ _)

  -- whether there was one so far, or the entry has it, which is that of the rule
  pub fault_more : (n : ℕ) (found : Bool) (e : Entry) → found ≡ any_row fault n rows x → e ≡ rows n x
      → (found || fault e) ≡ any_row fault (n + 1) rows x
  fault_more n found e p q = ap₂ (λ (b : Bool) (e : Entry). b || fault e) p q
      ∙ accumulate_next false ◌||◌ n (λ j. fault (rows j x))
