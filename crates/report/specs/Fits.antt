-- The program's rows and buffers are always large enough.
use Rattle.std.specs.Prelude.{◌≡◌, List, ℕ, ◌+◌, ◌≤◌, length, take}
use Rattle.model.specs.declared.Job.{Job}
use Rattle.model.specs.Limits.{most_severities}
use Rattle.compound.specs.Call.{curve_answer}
use Rattle.grammar.specs.Reading.{refuses, most_bytes, reading}
use Rattle.report.specs.Report.{program_rows, report_text}

-- no sheet has more weights than the row lent to the reader has places: 27 does not arise
abbrev pub WeightsFit : Type 0
WeightsFit = (s : List ℕ) (line : ℕ) → ¬ (reading most_severities s ≡ refuses 27 line)

-- nor has any job more totals than the rows lent to the curve: 8 does not arise
abbrev pub TotalsFit : Type 0
TotalsFit = (job : Job) (weights : List ℕ) → ¬ ((curve_answer job weights program_rows).number ≡ 8)

-- the bytes of the output's buffer
abbrev pub text_bytes : ℕ
text_bytes = 21504

abbrev pub TextFits : Type 0
TextFits = (s : List ℕ) → length (report_text s) ≤ text_bytes

-- the bytes of the input's buffer, one more than a sheet may have; a longer input is refused for its length, and so are its first bytes
abbrev pub input_bytes : ℕ
input_bytes = most_bytes + 1

abbrev pub InputFits : Type 0
InputFits = (s : List ℕ) → report_text (take input_bytes s) ≡ report_text s
