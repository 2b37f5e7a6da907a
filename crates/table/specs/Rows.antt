-- The rows that a table shows, as the code holds them.
use Rattle.std.specs.Prelude.{List, ℕ}
use Rattle.table.specs.declared.Table.{Table}
use Rattle.table.specs.Lines.{at, total_line, table_text}

abbrev pub line_at : Table → ℕ → List ℕ
line_at rows x = total_line x (at rows.low.now x) (at rows.high.now x) (at rows.bound.now x) (at rows.mark.now x)

abbrev pub text_of : Table → List ℕ
text_of rows = table_text rows.totals rows.low.now rows.high.now rows.bound.now rows.mark.now
