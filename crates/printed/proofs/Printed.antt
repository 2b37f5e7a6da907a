-- The numbers of a table's line are what the curve call shows, of which the facts of `accuracy` hold. So are those of any true table, since
-- the text of a line tells its numbers; hence bounds that the call shows alike are printed alike.
use mathlib.Core.Path.{◌≡◌, refl, sym, ap, ◌∙◌, subst}
use mathlib.Core.Logic.{◌⊎◌, inl, inr}
use mathlib.Core.Bool.{Bool, true, false, true≢false}
use mathlib.Core.List.{List}
use Prim.Native.Nat.{ℕ, ◌+◌, ◌≤◌}
use native.Mathlib.Omega.{arith}
use lib.Dec.{eqb}
use lib.IntN.{ℤ, pos}
use lib.ListN.{get_or}
use Rattle.model.specs.Mark.{mark_of}
use Rattle.enclosure.specs.declared.Entry.{Entry}
use Rattle.compound.specs.Lent.{Lent}
use Rattle.compound.specs.Call.{curve_lent}
use Rattle.rows.specs.Exact.{curve_marks}
use Rattle.accuracy.specs.Accuracy.{Accepted, shown}
use Rattle.accuracy.specs.Exactness.{shown_mark}
use Rattle.accuracy.proofs.Exactness.{shows_marks, exact_is_clerks, equal_ends_marked}
use Rattle.accuracy.proofs.Accuracy.{accepted_divisible, shows_curve, encloses, gap_within_bound, same_bounds}
use Rattle.text.specs.Bytes.{ascii}
use Rattle.text.specs.Lines.{has, line_at, IsLines}
use Rattle.text.proofs.LineText.{line_text_is_line}
use Rattle.table.specs.Lines.{yes, no, exact_letter, total_words}
use Rattle.grammar.specs.Sheet.{Sheet, sheet_text}
use Rattle.grammar.specs.Accepts.{Writable}
use Rattle.report.specs.Report.{program_rows, rows_text, report_text, Table, Refusal}
use Rattle.report.proofs.Outcome.{table_or_refusal, accepted_has_table}
use Rattle.printed.specs.Printed.{TrueTable, PrintedIsTrue, EveryAcceptedPrinted, PrintedSameBounds}
use Rattle.printed.proofs.Lines.{words_tell, table_heading, table_lines, table_line}

-- where the letter of a mark is Y, the entry is exact
says_yes : (exact : Bool) → exact_letter (mark_of exact) ≡ yes → exact ≡ true
says_yes true e = refl
says_yes false e = absurd (true≢false (ap (eqb no) e))

-- ---- a table
module _ (s : List ℕ) (table : Table s) where
  abbrev sheet : Sheet
  sheet = table.sheet

  abbrev rows : Lent
  rows = curve_lent sheet.job sheet.weights program_rows

  abbrev entry : ℕ → Entry
  entry = shown sheet.job sheet.weights program_rows

  abbrev mark : ℕ → ℤ
  mark = shown_mark sheet.job sheet.weights program_rows

  shown_printed : (x : ℕ) → x ≤ sheet.job.last
      → line_at (x + 2) (report_text s) ≡ total_words x (entry x).low (entry x).high (entry x).bound (mark x)
  shown_printed x l =
      ap (line_at (x + 2)) table.text
      ∙ table_line rows.low rows.high rows.bound rows.mark (sheet.job.last + 1) x (omega arith)

  all_lines : IsLines (sheet.job.last + 2) (rows_text sheet.job rows)
  all_lines = subst (λ (n : ℕ). IsLines n (rows_text sheet.job rows)) (omega arith)
      (table_lines rows.low rows.high rows.bound rows.mark (sheet.job.last + 1))

  -- where the letter is Y the mark is 1
  one : (x : ℕ) → x ≤ sheet.job.last → exact_letter (mark x) ≡ yes → mark x ≡ pos 1
  one x l t =
      let is = shows_marks sheet.job sheet.weights program_rows table.answer x l in
      is ∙ ap mark_of (says_yes (curve_marks sheet.job sheet.weights 0 x) (ap exact_letter (sym is) ∙ t))

  true_table : TrueTable s
  true_table =
      let divisible = accepted_divisible sheet.job sheet.weights program_rows table.answer in
      record {
        sheet = sheet;
        writable = table.writable;
        bytes = table.bytes;
        accepts = table.answer;
        divisible = divisible;
        heading = ap (line_at 1) table.text ∙ table_heading rows.low rows.high rows.bound rows.mark (sheet.job.last + 1);
        lines = λ x l. record {
          low = (entry x).low;
          high = (entry x).high;
          bound = (entry x).bound;
          mark = mark x;
          rule = shows_curve sheet.job sheet.weights program_rows table.answer x l;
          marked = shows_marks sheet.job sheet.weights program_rows table.answer x l;
          printed = shown_printed x l;
          encloses = encloses sheet.job sheet.weights program_rows table.answer divisible x l;
          narrow = gap_within_bound sheet.job sheet.weights program_rows table.answer x l;
          equal = λ e. ap exact_letter (equal_ends_marked sheet.job sheet.weights program_rows table.answer x l e);
          exact = λ t. exact_is_clerks sheet.job sheet.weights program_rows table.answer divisible x l (one x l t);
        };
        count = subst (IsLines (sheet.job.last + 2)) (sym table.text) all_lines;
      }

one_refusal : (s : List ℕ) → Refusal s → IsLines 1 (report_text s)
unfolding has
one_refusal s refusal = subst (IsLines 1) (sym refusal.text) (line_text_is_line (ascii "REFUSED") _ refl)

pub printed_is_true : PrintedIsTrue
printed_is_true s = by (table_or_refusal s)
  where
    by : Table s ⊎ Refusal s → TrueTable s ⊎ (Refusal s × IsLines 1 (report_text s))
    by (inl table) = inl (true_table s table)
    by (inr refusal) = inr (refusal, one_refusal s refusal)

-- every text of a writable sheet whose job is accepted has its table
abbrev table_of : (s : List ℕ) (sheet : Sheet) → Writable sheet → s ≡ sheet_text sheet → Accepted sheet.job sheet.weights program_rows
    → Table s
table_of s sheet writable bytes ok = record {
  sheet = sheet;
  writable = writable;
  bytes = bytes;
  answer = ok;
  text = ap report_text bytes ∙ accepted_has_table sheet writable ok;
}

pub every_accepted_printed : EveryAcceptedPrinted
unfolding true_table
every_accepted_printed sheet writable ok = (true_table (sheet_text sheet) (table_of (sheet_text sheet) sheet writable refl ok), refl)

-- ---- any true table
module _ (s : List ℕ) (table : TrueTable s) where
  abbrev its_table : Table s
  its_table = table_of s table.sheet table.writable table.bytes table.accepts

  bound_shown : (x : ℕ) (l : x ≤ table.sheet.job.last) → (table.lines x l).bound ≡ (entry s its_table x).bound
  bound_shown x l =
      let line = table.lines x l in
      let e = entry s its_table x in
      ap (λ (zs : List ℤ). get_or zs 2 (pos 0))
      (words_tell x line.low line.high line.bound line.mark e.low e.high e.bound (mark s its_table x)
      (sym line.printed ∙ shown_printed s its_table x l)).0

pub printed_same_bounds : PrintedSameBounds
printed_same_bounds s s' table table' same_law same_zero same_weights same_gap x l l' =
    let job = table.sheet.job in
    let job' = table'.sheet.job in
    let accepts' = subst (λ ws. Accepted job' ws program_rows) (sym same_weights) table'.accepts in
    bound_shown s table x l
    ∙ same_bounds job job' table.sheet.weights program_rows program_rows table.accepts accepts' same_law same_zero same_gap x l l'
    ∙ ap (λ (ws : List ℕ). (shown job' ws program_rows x).bound) same_weights
    ∙ sym (bound_shown s' table' x l')
