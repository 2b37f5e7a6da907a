-- Answers and jobs handed over number by number.
use Rattle.std.specs.Prelude.{List, ℕ, ℤ, pos, take, get_or}
use Rattle.model.specs.declared.Job.{Job}
use Rattle.model.specs.Job.{law_of, start_of, job_of}
use Rattle.model.specs.Answer.{Answer}
use Rattle.quantile.specs.Call.{Found}
use Rattle.sheet.specs.Call.{Told}
use Rattle.start.specs.Call.{Started}
use Rattle.published.specs.Call.{Made}

-- a call returns the number of its answer, 0 for an acceptance, and the place goes into a lent number
abbrev pub returned : ℕ → ℕ → Answer
returned number place = record { number = number; place = place }

-- k, D, A_1..A_4, B_1..B_4, s, t, X and w(0)
abbrev pub job_of_numbers : ℕ → ℕ → List ℤ → List ℤ → ℕ → ℕ → ℕ → ℕ → Job
job_of_numbers order divisor a b low high last w₀ = job_of (law_of order divisor a b) (start_of low high) last w₀

-- what the reader tells; the weights are the first of the row
abbrev pub tells : Answer → Job → ℕ → List ℕ → Told
tells answer job count row = record { answer = answer; job = job; count = count; weights = take count row }

-- what the level queries tell
abbrev pub tells_total : Answer → ℕ → Found
tells_total answer total = record { answer = answer; total = total }

-- what the calls for a start tell
abbrev pub tells_start : Answer → ℕ → ℕ → Started
tells_start answer low high = record { answer = answer; ends = record { low = pos low; high = pos high } }

-- what the calls for a law tell: D, A_1 and B_1
pub record FirstOrder : Type 0 where
  pub answer : Answer
  pub divisor : ℕ
  pub a : ℤ
  pub b : ℤ

abbrev pub tells_law : Answer → ℕ → ℤ → ℤ → FirstOrder
tells_law answer divisor a b = record { answer = answer; divisor = divisor; a = a; b = b }

-- the rest is not handed over: the order of a law that is made is 1, and its further terms are 0
abbrev pub first_order : Made → FirstOrder
first_order made = tells_law made.answer made.law.divisor (get_or made.law.a 0 (pos 0)) (get_or made.law.b 0 (pos 0))
