-- A job's law and table, as the exact calculation takes them, and the job's exact amounts.
use Rattle.std.specs.Prelude.{◌≡◌, List, ℕ, zero, suc, ◌≤◌, ℤ, pos, get_or}
use Rattle.algebra.specs.Fraction.{Fraction, ◌≈◌}
use Rattle.model.specs.declared.Law.{Law}
use Rattle.model.specs.declared.Job.{Job}
use Rattle.model.specs.Weights.{total_weight}
use Rattle.model.specs.Job.{job_divisor}
use Rattle.exact.specs.Frequency.{Frequency}
use Rattle.exact.specs.Severity.{Severity}
use Rattle.exact.specs.Amount.{exact_amount}
use Rattle.exact.specs.Thinned.{thinned_law}

-- A_i or B_i, for i from 1
abbrev pub term_at : List ℤ → ℕ → ℤ
term_at terms zero = pos 0
term_at terms (suc i) = get_or terms i (pos 0)

abbrev pub frequency : (law : Law) → 1 ≤ law.divisor → Frequency
frequency law h = record {
  order = law.order;
  divisor = law.divisor;
  divisor_pos = h;
  term_a = term_at law.a;
  term_b = term_at law.b;
}

abbrev pub severity : (weights : List ℕ) → 1 ≤ total_weight weights → Severity
severity weights h = record { weights = weights; total_pos = h }

-- what the exact calculation needs of a job: divisors that are not 0
pub record Divisible (job : Job) (weights : List ℕ) : Type 0 where
  pub divisor_pos : 1 ≤ job.law.divisor
  pub thinned_pos : 1 ≤ job_divisor job weights
  pub total_pos : 1 ≤ total_weight weights

module _ (job : Job) (weights : List ℕ) (h : Divisible job weights) where
  -- the job's law as it is given, of all claims, and its table of the claims that are not zero
  abbrev pub given_law : Frequency
  given_law = frequency job.law h.divisor_pos

  abbrev pub job_table : Severity
  job_table = severity weights h.total_pos

  -- "The clerk works with the law of the claims that are not zero"
  abbrev pub job_law : Frequency
  job_law = thinned_law given_law job.zero job_table h.thinned_pos

  -- the paper's "clerk's amount"
  abbrev pub amount : Fraction → ℕ → Fraction
  amount p x = exact_amount job_law job_table p x

-- "With weight 0 the curve answers as before": then the amounts are those of the law as it is given
abbrev pub ZeroWeightSameAmounts : Type 0
ZeroWeightSameAmounts = (job : Job) (weights : List ℕ) (h : Divisible job weights) → job.zero ≡ 0
    → (p : Fraction) (x : ℕ) → amount job weights h p x ≈ exact_amount (given_law job weights h) (job_table job weights h) p x
