-- An entry and its mark are computed from the rows as they then are, which is by the rule for the rows at the start.
use Rattle.std.proofs.Common.{◌≡◌, Bool, ◌&&◌, sym, ap, ap₂, subst₂, ◌∙◌}
use Rattle.rows.specs.declared.layout.Rows.{Rows}
use Rattle.rows.specs.declared.layout.SharedRows.{SharedRows}
use Rattle.rows.specs.Curve.{Rows as Entries, entry_at}
use Rattle.rows.specs.Exact.{Marks, lows, highs, used_at, exact_at}
use Rattle.rows.specs.Layout.{stored, stored_marks}
use Rattle.rows.specs.Lent.{held, shared_held, entries_in, shared_entries, marks_in, shared_marks}
use Rattle.rows.specs.Progress.{SettledRows}
use Rattle.rows.proofs.MarkRule.{exact_is}
use Rattle.rows.proofs.RowByRow.{put_none, put_settled, put_more, noted_none, noted_more}
use Rattle.rows.proofs.total.Recursion.fill_total.Goals as goal

-- the rows as they are lent to be read
same_entries : (shared : SharedRows) (rows : Rows) → shared.places ≡ rows.places → shared_held shared ≡ held rows
    → shared_entries shared ≡ entries_in rows
same_entries shared rows places entries = ap₂ stored places entries

same_marks : (shared : SharedRows) (rows : Rows) → shared.places ≡ rows.places → shared_held shared ≡ held rows
    → shared.mark.now ≡ rows.mark.now → shared_marks shared ≡ marks_in rows
same_marks shared rows places entries mark = λ i. stored_marks (places i) (mark i) ((entries i).work)

pub loop-row-init : goal.loop-row-init
loop-row-init c =
    let r = c.args.self.now in record {
      put = put_none r.job r.weights.now r.limits c.args.x c.args.rows.now c.requires.ready c.requires.mark_room;
      noted = noted_none r.job r.weights.now r.limits c.args.x c.args.rows.now c.requires.ready c.requires.mark_room c.args.settled;
    }

pub is_exact-exact-requires-clause-settled_rows : goal.is_exact-exact-requires-clause-settled_rows
is_exact-exact-requires-clause-settled_rows c =
    let r = c.args.self.now in
    let shared = c.shared-shared.ensures in
    subst₂ (λ (e : Entries) (m : Marks). SettledRows c.args.settled r.job.law.order c.args.x (lows e) (highs e) m)
    (sym (same_entries c.shared-shared.result c.loop-row.rows shared.places shared.entries))
    (sym (same_marks c.shared-shared.result c.loop-row.rows shared.places shared.entries shared.mark))
    (put_settled r.job r.weights.now r.limits c.args.x c.args.rows.now c.requires.ready c.requires.mark_room _ _ c.loop-row.invariant.put
    c.args.settled c.requires.settled_rows)

pub loop-row-preserved : goal.loop-row-preserved
loop-row-preserved c =
    let r = c.args.self.now in
    let job = r.job in
    let weights = r.weights.now in
    let rows = c.loop-row.rows in
    let shared = c.shared-shared.result in
    let same = c.shared-shared.ensures in
    let n = c.loop-row.row in
    let before = c.loop-row.invariant in
    let entries = same_entries shared rows same.places same.entries in
    let marks = same_marks shared rows same.places same.entries same.mark in
    let entry : c.entry_at-made.result.entry ≡ entry_at job weights (entries_in rows) n c.args.x = c.entry_at-made.ensures.entry
    ∙ ap (λ (e : Entries). entry_at job weights e n c.args.x) entries in
    let exact : c.is_exact-exact.result ≡ exact_at job weights (entries_in rows) (marks_in rows) n c.args.x = c.is_exact-exact.ensures
    ∙ ap (λ (t : Bool). t && used_at job.law weights (lows (shared_entries shared)) (highs (shared_entries shared)) (shared_marks shared)
    n c.args.x) c.entry_at-made.ensures.exact
    ∙ exact_is job weights (shared_entries shared) (shared_marks shared) n c.args.x
    ∙ ap₂ (λ (e : Entries) (m : Marks). exact_at job weights e m n c.args.x) entries marks in
    let put = c.put.ensures in
    let marked = c.put_mark.ensures in record {
      put = put_more job weights r.limits c.args.x c.args.rows.now c.requires.ready c.requires.mark_room n rows before.put
          c.loop-row-test.true _ _ _ _ put.same put.entries put.mark marked.same marked.low marked.high marked.bound marked.mark marked.work entry exact;
      noted = noted_more job weights r.limits c.args.x c.args.rows.now c.requires.ready c.requires.mark_room n rows before.put
          c.loop-row-test.true c.args.settled _ _ _ _ _ _ _ _ before.noted entry exact
          c.is_out_of_range-range.ensures c.is_bound_too_large-bound.ensures c.with_mark-next.ensures;
    }
