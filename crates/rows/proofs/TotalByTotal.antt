-- Totals one after the other in the lent rows: what holds before each, after one without a fault, and where the run stops.
use Rattle.std.proofs.Common.{◌≡◌, ℕ, ◌+◌, ◌≤◌, ◌<◌, Bool, true, false, cond, ◌||◌, List, refl, sym, ap, ap₂, ◌∙◌, arith}
use Rattle.std.specs.Prelude.{Option, Some, None, Ok, Err}
use Rattle.model.specs.declared.Job.{Job}
use Rattle.enclosure.specs.declared.marks.Settled.{Settled}
use Rattle.rows.specs.declared.fill.Fault.{Fault}
use Rattle.rows.specs.declared.fill.Fault.TheVariants.{Range, Bound}
use Rattle.rows.specs.declared.fill.Stop.{Stop}
use Rattle.rows.specs.declared.layout.Rows.{Rows}
use Rattle.enclosure.specs.Entry.{out_of_range}
use Rattle.rows.specs.Curve.{curve_rows, entry_at}
use Rattle.rows.specs.Exact.{exact_at}
use Rattle.rows.specs.Faults.{any_row, fault_at}
use Rattle.rows.specs.Lent.{held, entries_in, marks_in, MarkRoom, Room, SameRows}
use Rattle.rows.specs.Limits.{Limits}
use Rattle.rows.specs.Progress.{Ready, Advanced, MarksAdvanced, SettledIn, settled_after, Filled, MarksFilled}
use Rattle.rows.specs.Progress.{fault_by, fault_below, passed, stop_of}
use Rattle.rows.proofs.Filled.{Reached, reached_first, reached_ready, fault_curve, reached_next}
use Rattle.rows.proofs.Filled.{filled_fault, filled_end, stop_here, stop_end}
use Rattle.rows.proofs.MarkProgress.{MarksReached, marks_none, marks_next, marks_fault, marks_end}
use Rattle.rows.proofs.MarkProgress.{CurveKnown, known_none, known_stored, known_next}

-- ---- a total's answer
fault_none : (range bound : Bool) → fault_by range bound ≡ None → (range || bound) ≡ false
fault_none true bound e = absurd (cc)
fault_none false true e = absurd (cc)
fault_none false false e = refl

fault_some : (range bound : Bool) (fault : Fault) → fault_by range bound ≡ Some fault
    → ((range || bound) ≡ true) × (fault ≡ cond range Range Bound)
fault_some true bound fault e = (refl, cc)
fault_some false true fault e = (refl, cc)
fault_some false false fault e = absurd (cc)

passed_ok : {A : Type 0} (x : ℕ) (fault : Option Fault) (a b : A) → Ok b ≡ passed x fault a → (fault ≡ None) × (b ≡ a)
passed_ok x None a b e = (refl, cc)
passed_ok x (Some fault) a b e = absurd (cc)

passed_err : {A : Type 0} (x : ℕ) (fault : Option Fault) (a : A) (stop : Stop) → Err stop ≡ passed x fault a
    → (fault ≡ Some stop.fault) × (stop.total ≡ x)
passed_err x None a stop e = absurd (cc)
passed_err x (Some fault) a stop e =
    let same : stop ≡ record { fault = fault; total = x } = cc in
    (ap (λ (s : Stop). Some s.fault) (sym same), ap (λ (s : Stop). s.total) same)

-- ---- total by total
-- below total x the rows hold the curve and its marks, and what is known is known of the curve
pub record At (job : Job) (weights : List ℕ) (rows₀ : Rows) (x : ℕ) (rows : Rows) (settled : Settled) : Type 0 where
  pub same : SameRows rows rows₀
  pub entries : Reached job weights (held rows₀) x (held rows)
  pub marks : MarksReached job weights rows₀.mark.now x rows.mark.now rows.work.now
  pub known : CurveKnown job weights settled x

module _ (job : Job) (weights : List ℕ) (limits : Limits job weights) (rows₀ : Rows) (room : Room rows₀)
    (p : rows₀.places ≡ job.last + 1) where
  pub at_first : At job weights rows₀ 0 rows₀ (record { exact = 0; equal = 0 })
  at_first = record {
    same = record { low = refl; high = refl; bound = refl; mark = refl; work = refl; places = refl };
    entries = reached_first job weights limits (held rows₀);
    marks = marks_none job weights rows₀.mark.now rows₀.work.now;
    known = known_none job weights;
  }

  module _ (x : ℕ) (rows : Rows) (settled : Settled) (here : At job weights rows₀ x rows settled) where
    places_are : rows.places ≡ job.last + 1
    places_are = here.same.places ∙ p

    -- the rows at the end
    module _ (end : rows₀.places ≤ x) (before : x ≤ rows₀.places) where
      all : x ≡ job.last + 1
      all = omega arith

      pub end_stop : Ok tt ≡ stop_of job weights
      end_stop = stop_end job weights limits (rw all at here.entries.sound)

      pub end_filled : Filled job weights (held rows₀) (held rows)
      end_filled = filled_end job weights limits (held rows₀) (rw p at room.entries.long) x (held rows) here.entries all

      pub end_marks : MarksFilled job weights rows₀.mark.now rows.mark.now rows.work.now
      end_marks = marks_end job weights rows₀.mark.now limits (held rows₀) x (held rows) here.entries rows.mark.now here.marks all

    module _ (h : x < rows₀.places) where
      pub at_ready : Ready job.law.order x rows
      at_ready =
          let long = rw p at room.entries.long in
          let ready = reached_ready job weights limits (held rows₀) long x (held rows) here.entries (rw p at h) in record {
            room = record {
              places_most = rw here.same.places room.entries.places_most;
              long = rw places_are ready.long;
            };
            total_below = rw here.same.places h;
            earlier = λ j z l m. rw places_are (ready.basis.earlier j z l m);
          }

      pub at_mark_room : MarkRoom rows
      at_mark_room = record {
        places_most = at_ready.room.places_most;
        mark_long = omega (arith, here.marks.kept.same_length, room.marks.mark_long, here.same.places);
        work_long = at_ready.room.long.work_long;
      }

      pub at_settled : SettledIn settled job.law.order x rows
      at_settled = rw places_are (known_stored job weights rows₀.mark.now limits (held rows₀) x (held rows) here.entries rows.mark.now
          here.marks settled here.known)

      -- after one total more
      module _ (rows' : Rows) (same : SameRows rows' rows)
          (step : Advanced job weights rows.places x job.law.order (held rows) (held rows'))
          (marks : MarksAdvanced job weights rows.places x job.law.order (entries_in rows) rows.mark.now rows.work.now rows'.mark.now
          rows'.work.now) where
        abbrev fault : Option Fault
        fault = fault_below job.law.order (entry_at job weights (entries_in rows)) x

        abbrev next : Settled
        next = settled_after job.law.order settled x (exact_at job weights (entries_in rows) (marks_in rows))
            (entry_at job weights (entries_in rows))

        pub same₀ : SameRows rows' rows₀
        same₀ = record {
          low = same.low ∙ here.same.low;
          high = same.high ∙ here.same.high;
          bound = same.bound ∙ here.same.bound;
          mark = same.mark ∙ here.same.mark;
          work = same.work ∙ here.same.work;
          places = same.places ∙ here.same.places;
        }

        fault_is : fault ≡ fault_below job.law.order (curve_rows job weights) x
        fault_is = rw places_are (fault_curve job weights limits (held rows₀) (rw p at room.entries.long) x (held rows) here.entries)

        -- one without a fault
        pub at_next : (settled' : Settled) → Ok settled' ≡ passed x fault next → At job weights rows₀ (x + 1) rows' settled'
        at_next settled' e =
            let answer = passed_ok x fault next settled' e in record {
              same = same₀;
              entries = reached_next job weights limits (held rows₀) (rw p at room.entries.long) x (held rows) here.entries (held rows')
                  (rw places_are at step) (fault_none _ _ (sym fault_is ∙ answer.0));
              marks = marks_next job weights rows₀.mark.now limits (held rows₀) x (held rows) here.entries rows.mark.now here.marks
                  rows'.mark.now rows'.work.now (rw places_are at marks);
              known = known_next job weights rows₀.mark.now limits (held rows₀) x (held rows) here.entries rows.mark.now here.marks
                  (rw p at room.entries.long) settled settled' here.known (rw places_are at answer.1);
            }

        -- the first that has one
        module _ (stop : Stop) (e : Err stop ≡ passed x fault next) where
          found : (fault_at job.law.order (curve_rows job weights) x ≡ true)
              × (stop.fault ≡ cond (any_row out_of_range job.law.order (curve_rows job weights) x) Range Bound)
          found = fault_some _ _ stop.fault (sym fault_is ∙ (passed_err x fault next stop e).0)

          pub fault_stop : Err stop ≡ stop_of job weights
          fault_stop = ap₂ (λ (f : Fault) (n : ℕ). Err (record { fault = f; total = n })) found.1 (passed_err x fault next stop e).1
              ∙ stop_here job weights limits x (rw p at h) here.entries.sound found.0

          pub fault_filled : Filled job weights (held rows₀) (held rows')
          fault_filled = filled_fault job weights limits (held rows₀) (rw p at room.entries.long) x (held rows) here.entries (held rows')
              (rw places_are at step) (rw p at h) found.0

          pub fault_marks : MarksFilled job weights rows₀.mark.now rows'.mark.now rows'.work.now
          fault_marks = marks_fault job weights rows₀.mark.now limits (held rows₀) x (held rows) here.entries rows.mark.now here.marks
              rows'.mark.now rows'.work.now (rw places_are at marks) (rw p at h) found.0
