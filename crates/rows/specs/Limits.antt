-- What the functions that fill the rows need to know of a job, and the curve call's checks leave: its numbers lie within limits.
use Rattle.std.specs.Prelude.{List, ℕ, ◌≤◌, ◌<◌, pos, nat_abs, get_or}
use Rattle.model.specs.declared.Law.{Law}
use Rattle.model.specs.declared.Job.{Job}
use Rattle.model.specs.Limits.{unit, most_order, most_last}
use Rattle.model.specs.Weights.{total_weight, all_weight}
use Rattle.model.specs.Job.{job_divisor}

-- of its law, by checks 1 to 3
pub record LawLimits (law : Law) : Type 0 where
  pub order_least : 1 ≤ law.order
  pub order_most : law.order ≤ most_order
  pub divisor_least : 1 ≤ law.divisor
  pub divisor_most : law.divisor ≤ 1000
  pub a_small : (i : ℕ) → i < most_order → nat_abs (get_or law.a i (pos 0)) ≤ 1000
  pub b_small : (i : ℕ) → i < most_order → nat_abs (get_or law.b i (pos 0)) ≤ 1000

-- of the row of its table, by checks 6 and 13
pub record TableLimits (weights : List ℕ) : Type 0 where
  pub weights_least : 1 ≤ total_weight weights
  pub weights_most : total_weight weights ≤ 1000

-- of all of it, by checks 1 to 7, 12 and 13
pub record Limits (job : Job) (weights : List ℕ) : Type 0 where
  pub law : LawLimits job.law
  pub table : TableLimits weights
  pub all_most : all_weight job.zero weights ≤ 1000
  pub thinned_least : 1 ≤ job_divisor job weights
  pub start_order : job.start.low ≤ job.start.high
  pub start_most : job.start.high ≤ unit
  pub last_most : job.last ≤ most_last
