-- The program: what it writes on the bytes of a sheet, a table or a refusal's line (table/specs/Lines).
use Rattle.std.specs.Prelude.{◌≡◌, false, cond, ◌⊎◌, List, ℕ, ◌+◌, ℤ, pos, replicate}
use Rattle.model.specs.declared.Job.{Job}
use Rattle.model.specs.Answer.{Answer, accepted, refused, is_accepted}
use Rattle.model.specs.Limits.{most_severities, most_totals}
use Rattle.rows.specs.Layout.{work_places}
use Rattle.compound.specs.Lent.{Lent, lent_rows}
use Rattle.compound.specs.Call.{curve_answer, curve_lent}
use Rattle.table.specs.Lines.{table_text, refusal_line}
use Rattle.grammar.specs.Sheet.{Sheet, sheet_text}
use Rattle.grammar.specs.Reading.{Reading, reads, refuses, reading}
use Rattle.grammar.specs.Accepts.{Writable}

-- ---- the program's own rows, which it lends to the calls, long enough for every X
abbrev pub zeros : ℕ → List ℤ
zeros places = replicate places (pos 0)

abbrev pub program_rows : Lent
program_rows = lent_rows (zeros most_totals) (zeros most_totals) (zeros most_totals) (zeros most_totals) (zeros (work_places most_totals))

-- ---- the text
-- of the rows that the curve call leaves
abbrev pub rows_text : Job → Lent → List ℕ
rows_text job rows = table_text (job.last + 1) rows.low rows.high rows.bound rows.mark

unfoldable pub curve_text : Job → List ℕ → List ℕ
curve_text job weights = cond (is_accepted (curve_answer job weights program_rows))
    (rows_text job (curve_lent job weights program_rows))
    (refusal_line (curve_answer job weights program_rows))

abbrev pub reading_text : Reading → List ℕ
reading_text (reads sheet) = curve_text sheet.job sheet.weights
reading_text (refuses number line) = refusal_line (refused number line)

-- what the program writes on the bytes of a sheet; its row for weights is long enough for every m
unfoldable pub report_text : List ℕ → List ℕ
report_text s = reading_text (reading most_severities s)

-- ---- what is proved of it
-- a table is written where the bytes are, one by one, the text of a sheet whose job is accepted; it shows what the call leaves in the rows
pub record Table (s : List ℕ) : Type 0 where
  pub sheet : Sheet
  pub writable : Writable sheet
  pub bytes : s ≡ sheet_text sheet
  pub answer : curve_answer sheet.job sheet.weights program_rows ≡ accepted
  pub text : report_text s ≡ rows_text sheet.job (curve_lent sheet.job sheet.weights program_rows)

-- what the program answers: the reader's refusal, or, where the reader takes the sheet, the curve call's answer
abbrev pub reading_answer : Reading → Answer
reading_answer (reads sheet) = curve_answer sheet.job sheet.weights program_rows
reading_answer (refuses number line) = refused number line

-- else one line is written: the refusal's number, and its place or line
pub record Refusal (s : List ℕ) : Type 0 where
  pub answer : Answer
  pub due : answer ≡ reading_answer (reading most_severities s)
  pub refused : is_accepted answer ≡ false
  pub text : report_text s ≡ refusal_line answer

abbrev pub TableOrRefusal : Type 0
TableOrRefusal = (s : List ℕ) → Table s ⊎ Refusal s

-- and every such text gives its table
abbrev pub AcceptedHasTable : Type 0
AcceptedHasTable = (sheet : Sheet) → Writable sheet → curve_answer sheet.job sheet.weights program_rows ≡ accepted
    → report_text (sheet_text sheet) ≡ rows_text sheet.job (curve_lent sheet.job sheet.weights program_rows)
