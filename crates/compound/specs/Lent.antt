-- The rows lent to the curve call: three for the curve, one for its marks, and the work row.
use Rattle.std.specs.Prelude.{◌≡◌, List, ℕ, ◌≤◌, ℤ, length}
use Rattle.rows.specs.Layout.{Lent as EntryRows, lent_rows as entry_rows, LongEnough as EntriesLong}
use Rattle.rows.specs.declared.layout.Rows.{Rows}
use Rattle.compound.specs.declared.LentRows.{LentRows}

pub record Lent : Type 0 where
  pub low : List ℤ
  pub high : List ℤ
  pub bound : List ℤ
  pub mark : List ℤ
  pub work : List ℤ

abbrev pub lent_rows : (low high bound mark work : List ℤ) → Lent
lent_rows low high bound mark work = record { low = low; high = high; bound = bound; mark = mark; work = work }

-- what the code's rows hold, as they are lent to the call and to the recursion
abbrev pub lent_of : LentRows → Lent
lent_of r = lent_rows r.low.now r.high.now r.bound.now r.mark.now r.work.now

abbrev pub lent_in : Rows → Lent
lent_in r = lent_rows r.low.now r.high.now r.bound.now r.mark.now r.work.now

-- the same rows, whatever they hold
pub record SameLent (r s : LentRows) : Type 0 where
  pub low : r.low.ghost_name ≡ s.low.ghost_name
  pub high : r.high.ghost_name ≡ s.high.ghost_name
  pub bound : r.bound.ghost_name ≡ s.bound.ghost_name
  pub mark : r.mark.ghost_name ≡ s.mark.ghost_name
  pub work : r.work.ghost_name ≡ s.work.ghost_name

-- those that hold entries
abbrev pub entries_of : Lent → EntryRows
entries_of lent = entry_rows lent.low lent.high lent.bound lent.work

-- rows that are long enough, by the number of totals
pub record LongEnough (places : ℕ) (lent : Lent) : Type 0 where
  pub entries : EntriesLong places (entries_of lent)
  pub mark_long : places ≤ length lent.mark
