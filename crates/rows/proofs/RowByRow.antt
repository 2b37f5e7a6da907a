-- One total in the lent rows: what holds before each row is put, and after it.
use Rattle.std.proofs.Common.{◌≡◌, ℕ, ◌+◌, ◌≤◌, ◌<◌, Bool, false, ◌||◌, List, length, ℤ, refl, sym, ap, subst, subst₂, ◌∙◌, arith}
use Rattle.model.specs.declared.Job.{Job}
use Rattle.model.specs.Mark.{is_exact as is_mark}
use Rattle.enclosure.specs.declared.Entry.{Entry}
use Rattle.enclosure.specs.declared.marks.Settled.{Settled}
use Rattle.enclosure.specs.Entry.{out_of_range, bound_too_large}
use Rattle.rows.specs.declared.layout.Rows.{Rows}
use Rattle.rows.specs.Curve.{Rows as Entries, entry_at}
use Rattle.rows.specs.Exact.{Marks, exact_at}
use Rattle.rows.specs.Faults.{any_row}
use Rattle.rows.specs.Layout.{Lent, lent_rows, placed, mark_put, work_put}
use Rattle.rows.specs.Lent.{held, entries_in, marks_in, SameRows, MarkRoom}
use Rattle.rows.specs.Limits.{Limits}
use Rattle.rows.specs.Progress.{Ready, Advanced, MarksAdvanced, SettledIn, settled_by, settled_after}
use Rattle.rows.proofs.Advanced.{advanced_first, advanced_ready, advanced_put, fault_none, fault_more}
use Rattle.rows.proofs.Known.{settled_same, known_first, known_more}
use Rattle.rows.proofs.MarkProgress.{advanced_marked, marks_first, marks_put}
use Rattle.rows.proofs.MarkRule.{exact_local}
use Rattle.rows.proofs.Recursion.{entry_local}
use Rattle.rows.proofs.Sums.{ReadyIn, ready_in}

-- the rows below n were put at total x
pub record Put (job : Job) (weights : List ℕ) (x n : ℕ) (rows₀ rows : Rows) : Type 0 where
  pub same : SameRows rows rows₀
  pub entries : Advanced job weights rows₀.places x n (held rows₀) (held rows)
  pub marks : MarksAdvanced job weights rows₀.places x n (entries_in rows₀) rows₀.mark.now rows₀.work.now rows.mark.now rows.work.now

-- their faults, and what is known then
pub record Noted (job : Job) (weights : List ℕ) (x n : ℕ) (rows₀ : Rows) (settled : Settled) (range bound : Bool)
    (next : Settled) : Type 0 where
  pub range_so_far : range ≡ any_row out_of_range n (entry_at job weights (entries_in rows₀)) x
  pub bound_so_far : bound ≡ any_row bound_too_large n (entry_at job weights (entries_in rows₀)) x
  pub known : next ≡ settled_after n settled x (exact_at job weights (entries_in rows₀) (marks_in rows₀))
      (entry_at job weights (entries_in rows₀))

module _ (job : Job) (weights : List ℕ) (limits : Limits job weights) (x : ℕ) (rows₀ : Rows) (ready : Ready job.law.order x rows₀)
    (mark_room : MarkRoom rows₀) where
  abbrev places : ℕ
  places = rows₀.places

  abbrev rule : Entries
  rule = entry_at job weights (entries_in rows₀)

  abbrev mark_rule : Marks
  mark_rule = exact_at job weights (entries_in rows₀) (marks_in rows₀)

  pub noted_none : (settled : Settled) → Noted job weights x 0 rows₀ settled false false settled
  noted_none settled = record {
    range_so_far = fault_none out_of_range rule x;
    bound_so_far = fault_none bound_too_large rule x;
    known = known_first settled x mark_rule rule;
  }

  pub put_none : Put job weights x 0 rows₀ rows₀
  put_none = record {
    same = record { low = refl; high = refl; bound = refl; mark = refl; work = refl; places = refl };
    entries = advanced_first job weights places x (held rows₀) (ready_in limits ready);
    marks = marks_first job weights places x (held rows₀) (ready_in limits ready) rows₀.mark.now;
  }

  module _ (n : ℕ) (rows : Rows) (so_far : Put job weights x n rows₀ rows) where
    same_places : rows.places ≡ places
    same_places = so_far.same.places

    -- entries at earlier totals are what they were
    earlier : (j z : ℕ) → j < job.law.order → z < x → entries_in rows j z ≡ entries_in rows₀ j z
    earlier j z h l = rw same_places (so_far.entries.earlier j z h l)

    marks_earlier : (j z : ℕ) → j < job.law.order → z < x → marks_in rows j z ≡ marks_in rows₀ j z
    marks_earlier j z h l = rw same_places (ap is_mark (so_far.marks.earlier j z h l))

    mark_long : places ≤ length rows.mark.now
    mark_long = omega (arith, so_far.marks.kept.same_length, mark_room.mark_long)

    pub put_ready : Ready job.law.order x rows
    put_ready =
        let here = advanced_ready job weights places x (held rows₀) (ready_in limits ready) n (held rows) so_far.entries in record {
          room = record {
            places_most = rw same_places ready.room.places_most;
            long = rw same_places here.long;
          };
          total_below = rw same_places ready.total_below;
          earlier = λ j z h l. rw same_places (here.basis.earlier j z h l);
        }

    pub put_mark_room : MarkRoom rows
    put_mark_room = record {
      places_most = put_ready.room.places_most;
      mark_long = rw same_places mark_long;
      work_long = put_ready.room.long.work_long;
    }

    pub put_settled : (s : Settled) → SettledIn s job.law.order x rows₀ → SettledIn s job.law.order x rows
    put_settled s known = settled_same job.law.order x s _ _ _ _ _ _
        (λ j z h l. ap (λ (e : Entry). e.low) (earlier j z h l)) (λ j z h l. ap (λ (e : Entry). e.high) (earlier j z h l))
        marks_earlier known

    -- the rule, from the rows as they are and as they were
    module _ (h : n < job.law.order) where
      put_entry : entry_at job weights (entries_in rows) n x ≡ rule n x
      put_entry = entry_local job weights (entries_in rows) (entries_in rows₀) n x h earlier

      put_exact : exact_at job weights (entries_in rows) (marks_in rows) n x ≡ mark_rule n x
      put_exact = exact_local job weights _ _ _ _ n x h earlier marks_earlier

    -- one row more is noted
    pub noted_more : n < job.law.order → (settled next next' : Settled) (range range' bound bound' : Bool) (e : Entry) (exact : Bool)
        → Noted job weights x n rows₀ settled range bound next
        → e ≡ entry_at job weights (entries_in rows) n x → exact ≡ exact_at job weights (entries_in rows) (marks_in rows) n x
        → range' ≡ out_of_range e → bound' ≡ bound_too_large e → next' ≡ settled_by next x exact e
        → Noted job weights x (n + 1) rows₀ settled (range || range') (bound || bound') next'
    noted_more h settled next next' range range' bound bound' e exact noted entry mark r b k = record {
      range_so_far = ap (λ (t : Bool). range || t) r ∙ fault_more out_of_range rule x n range e noted.range_so_far (entry ∙ put_entry h);
      bound_so_far = ap (λ (t : Bool). bound || t) b ∙ fault_more bound_too_large rule x n bound e noted.bound_so_far (entry ∙ put_entry h);
      known = k ∙ known_more settled x mark_rule rule n next exact e noted.known (mark ∙ put_exact h) (entry ∙ put_entry h);
    }

    -- one row more: its entry, and then its mark
    pub put_more : n < job.law.order → (rows₁ rows₂ : Rows) (e : Entry) (exact : Bool)
        → SameRows rows₁ rows → held rows₁ ≡ placed rows.places (held rows) n x e → rows₁.mark.now ≡ rows.mark.now
        → SameRows rows₂ rows₁ → rows₂.low.now ≡ rows₁.low.now → rows₂.high.now ≡ rows₁.high.now → rows₂.bound.now ≡ rows₁.bound.now
        → rows₂.mark.now ≡ mark_put rows₁.mark.now n x exact → rows₂.work.now ≡ work_put rows₁.places rows₁.work.now n x exact
        → e ≡ entry_at job weights (entries_in rows) n x → exact ≡ exact_at job weights (entries_in rows) (marks_in rows) n x
        → Put job weights x (n + 1) rows₀ rows₂
    put_more h rows₁ rows₂ e exact same₁ entries mark₁ same₂ low high bound mark work is_entry is_exact =
        record {
          same = record {
            low = same₂.low ∙ same₁.low ∙ so_far.same.low;
            high = same₂.high ∙ same₁.high ∙ so_far.same.high;
            bound = same₂.bound ∙ same₁.bound ∙ so_far.same.bound;
            mark = same₂.mark ∙ same₁.mark ∙ so_far.same.mark;
            work = same₂.work ∙ same₁.work ∙ so_far.same.work;
            places = same₂.places ∙ same₁.places ∙ so_far.same.places;
          };
          entries = subst (Advanced job weights places x (n + 1) (held rows₀)) (sym marked)
              (advanced_marked job weights places x (held rows₀) ready₀ (n + 1) (omega arith) lent₁ next n h exact);
          marks = subst₂ (MarksAdvanced job weights places x (n + 1) (entries_in rows₀) rows₀.mark.now rows₀.work.now)
              (sym (mark ∙ ap (λ (m : List ℤ). mark_put m n x exact) mark₁)) (sym work₂)
              (marks_put job weights places x (held rows₀) ready₀ rows₀.mark.now n h (held rows) so_far.entries rows.mark.now so_far.marks
              mark_long e (omega (arith, next.kept.work.same_length, ready.room.long.work_long)) exact (rw same_places at is_exact));
        }
      where
        ready₀ : ReadyIn job.law weights places x (held rows₀)
        ready₀ = ready_in limits ready

        lent₁ : Lent
        lent₁ = placed places (held rows) n x e

        next : Advanced job weights places x (n + 1) (held rows₀) lent₁
        next = advanced_put job weights places x (held rows₀) ready₀ n (held rows) so_far.entries h e (rw same_places at is_entry)

        put : held rows₁ ≡ lent₁
        put = rw same_places at entries

        work₂ : rows₂.work.now ≡ work_put places lent₁.work n x exact
        work₂ = rw (same₁.places, same_places) at work ∙ ap (λ (l : Lent). work_put places l.work n x exact) put

        marked : held rows₂ ≡ lent_rows lent₁.low lent₁.high lent₁.bound (work_put places lent₁.work n x exact)
        marked = λ i. lent_rows ((low ∙ ap (λ (l : Lent). l.low) put) i) ((high ∙ ap (λ (l : Lent). l.high) put) i)
            ((bound ∙ ap (λ (l : Lent). l.bound) put) i) (work₂ i)
