-- A job made of its numbers, by the one function that definitions make it with; and its divisor.
use Rattle.std.specs.Prelude.{List, ℕ, ℤ, pos, get_or}
use Rattle.model.specs.declared.Law.{Law}
use Rattle.model.specs.declared.Start.{Start}
use Rattle.model.specs.declared.Job.{Job}
use Rattle.model.specs.Weights.{all_weight, thinned_divisor}

-- k, D, A_1..A_4 and B_1..B_4
abbrev pub law_of : ℕ → ℕ → List ℤ → List ℤ → Law
law_of order divisor a b = record { order = order; divisor = divisor; a = a; b = b }

-- s and t
abbrev pub start_of : ℕ → ℕ → Start
start_of low high = record { low = low; high = high }

-- with X and w(0), the weight of severity 0
abbrev pub job_of : Law → Start → ℕ → ℕ → Job
job_of law start last w₀ = record { law = law; start = start; last = last; zero = w₀ }

-- "D times W - A times w(0)" of a job, with A_1; 0 where that is zero or less
abbrev pub job_divisor : Job → List ℕ → ℕ
job_divisor job weights =
    thinned_divisor job.law.divisor (get_or job.law.a 0 (pos 0)) job.zero (all_weight job.zero weights)
