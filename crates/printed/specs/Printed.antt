-- Demand 3 from bytes to bytes, for a reader who holds a sheet and the text that the program writes on it, `report_text` of the sheet's
-- bytes (report/specs/Report): it is one refusal's line, or a table, and then every line of the table is true.
use Rattle.std.specs.Prelude.{◌≡◌, ◌⊎◌, List, [], ◌∷◌, ℕ, ◌+◌, ◌≤◌, ℤ, pos, ◌-ℤ◌, ◌≤ℤ◌}
use Rattle.algebra.specs.Fraction.{Fraction, whole, ◌≈◌, ◌≼◌}
use Rattle.model.specs.Mark.{mark_of}
use Rattle.exact.specs.JobAmount.{Divisible, amount}
use Rattle.rows.specs.Curve.{curve_rows}
use Rattle.rows.specs.Exact.{curve_marks}
use Rattle.accuracy.specs.Accuracy.{Accepted, gap}
use Rattle.text.specs.Bytes.{ascii}
use Rattle.text.specs.Lines.{line_at, IsLines}
use Rattle.table.specs.Lines.{yes, exact_letter, total_words}
use Rattle.grammar.specs.Sheet.{Sheet, sheet_text}
use Rattle.grammar.specs.Accepts.{Writable}
use Rattle.report.specs.Report.{program_rows, report_text, Refusal}

-- no line with other numbers, or with the other letter, has the same text
abbrev pub WordsTell : Type 0
WordsTell = (x : ℕ) (l h b m l' h' b' m' : ℤ) → total_words x l h b m ≡ total_words x l' h' b' m'
    → (l ∷ h ∷ b ∷ [] ≡ l' ∷ h' ∷ b' ∷ []) × (exact_letter m ≡ exact_letter m')

-- line x + 2 of a text, the heading being line 1: it says what the rule gives at total x, and that is true of the sheet's job
pub record TrueLine (sheet : Sheet) (h : Divisible sheet.job sheet.weights) (text : List ℕ) (x : ℕ) : Type 0 where
  pub low : ℤ
  pub high : ℤ
  pub bound : ℤ
  pub mark : ℤ
  -- they are those of the paper's rule (`CurveRule` of rows/specs/Curve, `MarkRule` of rows/specs/Exact)
  pub rule : record { low = low; high = high; bound = bound } ≡ curve_rows sheet.job sheet.weights 0 x
  pub marked : mark ≡ mark_of (curve_marks sheet.job sheet.weights 0 x)
  -- "one line for each total: total, low, high, bound", and "Y or N"; no other line has this text (`WordsTell`)
  pub printed : line_at (x + 2) text ≡ total_words x low high bound mark
  -- the exact amount lies from low to high, for every starting chance from the low start to the high start, whole or fraction
  pub encloses : (p : Fraction) → whole (pos sheet.job.start.low) ≼ p → p ≼ whole (pos sheet.job.start.high)
      → (whole low ≼ amount sheet.job sheet.weights h p x) × (amount sheet.job sheet.weights h p x ≼ whole high)
  -- high minus low is at most the bound
  pub narrow : (high -ℤ low) ≤ℤ bound
  -- where low equals high, it says Y
  pub equal : low ≡ high → exact_letter mark ≡ yes
  -- where it says Y, low and high are the amounts for the low and the high start; where it says N, they may be or not
  pub exact : exact_letter mark ≡ yes
      → (whole low ≈ amount sheet.job sheet.weights h (whole (pos sheet.job.start.low)) x)
      × (whole high ≈ amount sheet.job sheet.weights h (whole (pos sheet.job.start.high)) x)

-- the bytes are the text of a sheet whose job is accepted, and what the program writes on them is a heading and a true line for each total
-- from 0 to X, each with its line end, and nothing more
pub record TrueTable (s : List ℕ) : Type 0 where
  pub sheet : Sheet
  pub writable : Writable sheet
  pub bytes : s ≡ sheet_text sheet
  pub accepts : Accepted sheet.job sheet.weights program_rows
  pub divisible : Divisible sheet.job sheet.weights
  pub heading : line_at 1 (report_text s) ≡ ascii "TOTAL LOW HIGH BOUND EXACT"
  pub lines : (x : ℕ) → x ≤ sheet.job.last → TrueLine sheet divisible (report_text s) x
  pub count : IsLines (sheet.job.last + 2) (report_text s)

-- whatever the bytes are, the program writes a true table, or "one line only: `REFUSED`, the number and the place or line"
abbrev pub PrintedIsTrue : Type 0
PrintedIsTrue = (s : List ℕ) → TrueTable s ⊎ (Refusal s × IsLines 1 (report_text s))

-- and it refuses no text of a writable sheet whose job is accepted: it writes a true table, of this sheet
abbrev pub EveryAcceptedPrinted : Type 0
EveryAcceptedPrinted = (sheet : Sheet) → Writable sheet → Accepted sheet.job sheet.weights program_rows
    → (table : TrueTable (sheet_text sheet)) × (table.sheet ≡ sheet)

-- two tables of sheets alike in law, weights, that of severity 0 among them, and gap print the same bound for each total that both reach
abbrev pub PrintedSameBounds : Type 0
PrintedSameBounds = (s s' : List ℕ) (table : TrueTable s) (table' : TrueTable s')
    → table.sheet.job.law ≡ table'.sheet.job.law
    → table.sheet.job.zero ≡ table'.sheet.job.zero → table.sheet.weights ≡ table'.sheet.weights
    → gap table.sheet.job.start ≡ gap table'.sheet.job.start
    → (x : ℕ) (l : x ≤ table.sheet.job.last) (l' : x ≤ table'.sheet.job.last)
    → (table.lines x l).bound ≡ (table'.lines x l').bound
