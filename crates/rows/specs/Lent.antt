-- The lent rows, of which the recursion reads and writes, and the same rows lent to be read.
use Rattle.std.specs.Prelude.{◌≡◌, List, ℕ, ◌≤◌, ℤ, length}
use Rattle.model.specs.Limits.{most_totals}
use Rattle.rows.specs.declared.layout.Rows.{Rows}
use Rattle.rows.specs.declared.layout.SharedRows.{SharedRows}
use Rattle.rows.specs.Curve.{Rows as Entries}
use Rattle.rows.specs.Exact.{Marks}
use Rattle.rows.specs.Layout.{Lent, lent_rows, work_places, stored, stored_marks, LongEnough}

-- what those hold that have entries
abbrev pub held : Rows → Lent
held r = lent_rows r.low.now r.high.now r.bound.now r.work.now

abbrev pub shared_held : SharedRows → Lent
shared_held r = lent_rows r.low.now r.high.now r.bound.now r.work.now

-- their entries and their marks, by row and total
abbrev pub entries_in : Rows → Entries
entries_in r = stored r.places (held r)

abbrev pub shared_entries : SharedRows → Entries
shared_entries r = stored r.places (shared_held r)

abbrev pub marks_in : Rows → Marks
marks_in r = stored_marks r.places r.mark.now r.work.now

abbrev pub shared_marks : SharedRows → Marks
shared_marks r = stored_marks r.places r.mark.now r.work.now

-- the same rows, whatever they hold
pub record SameRows (r s : Rows) : Type 0 where
  pub low : r.low.ghost_name ≡ s.low.ghost_name
  pub high : r.high.ghost_name ≡ s.high.ghost_name
  pub bound : r.bound.ghost_name ≡ s.bound.ghost_name
  pub mark : r.mark.ghost_name ≡ s.mark.ghost_name
  pub work : r.work.ghost_name ≡ s.work.ghost_name
  pub places : r.places ≡ s.places

-- ---- rows that are long enough
-- for the entries: low, high and bound of every row
pub record EntryRoomIn (places : ℕ) (lent : Lent) : Type 0 where
  pub places_most : places ≤ most_totals
  pub long : LongEnough places lent

abbrev pub EntryRoom : Rows → Type 0
EntryRoom r = EntryRoomIn r.places (held r)

-- for the marks
pub record MarkRoomIn (places : ℕ) (mark work : List ℤ) : Type 0 where
  pub places_most : places ≤ most_totals
  pub mark_long : places ≤ length mark
  pub work_long : work_places places ≤ length work

abbrev pub MarkRoom : Rows → Type 0
MarkRoom r = MarkRoomIn r.places r.mark.now r.work.now

-- for the marks and the ends that stand beside them, where these are read: no bounds
pub record MarkedRoom (r : SharedRows) : Type 0 where
  pub marks : MarkRoomIn r.places r.mark.now r.work.now
  pub low_long : r.places ≤ length r.low.now
  pub high_long : r.places ≤ length r.high.now

-- for both, entries and marks
pub record Room (r : Rows) : Type 0 where
  pub entries : EntryRoom r
  pub marks : MarkRoom r
