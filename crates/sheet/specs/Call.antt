-- The call of the sheet reader: "Takes the sheet's bytes and a lent row for weights."
use Rattle.std.specs.Prelude.{List, [], ℕ, length, take, Result, Ok, Err}
use Rattle.algebra.specs.Slice.{written}
use Rattle.model.specs.declared.Job.{Job}
use Rattle.model.specs.declared.refusal.Refusal.{Refusal}
use Rattle.model.specs.Answer.{Answer, accepted, refused}
use Rattle.model.specs.Job.{start_of, job_of}
use Rattle.lines.specs.declared.Reason.{Reason}
use Rattle.lines.specs.Reason.{number_of}
use Rattle.grammar.specs.Reading.{Reading, reads, refuses, no_terms}
use Rattle.sheet.specs.declared.Sheet.{Sheet}

-- the numbers of the answer, and the weights in the first places of a row
pub record Told : Type 0 where
  pub answer : Answer
  pub job : Job
  pub count : ℕ
  pub weights : List ℕ

-- "A refusal carries one reason and the number of its line", and "the other numbers in its answer are 0"
abbrev pub no_job : Job
no_job = job_of (no_terms 0 0) (start_of 0 0) 0 0

-- what the code answers, and what it leaves in the row
abbrev pub paper : Result Sheet (Refusal Reason) → List ℕ → Told
paper (Ok read) row = record { answer = accepted; job = read.job; count = read.count; weights = take read.count row }
paper (Err refusal) row =
    record { answer = refused (number_of refusal.reason) refusal.place; job = no_job; count = 0; weights = [] }

-- what a sheet gives
abbrev pub told : Reading → Told
told (reads sheet) = record { answer = accepted; job = sheet.job; count = length sheet.weights; weights = sheet.weights }
told (refuses number line) = record { answer = refused number line; job = no_job; count = 0; weights = [] }

-- "A refusal writes nothing. An acceptance writes the first m places and no others."
abbrev pub row_on_return : Reading → List ℕ → List ℕ
row_on_return (reads sheet) row = written sheet.weights row
row_on_return (refuses number line) row = row
