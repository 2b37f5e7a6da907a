-- "The sums fit 64 signed bits under the limits above and the range below."
use Rattle.std.specs.Prelude.{List, ℕ, suc, ◌<◌}
use Rattle.algebra.specs.Smallest.{FailBelow}
use Rattle.model.specs.declared.Job.{Job}
use Rattle.enclosure.specs.Entry.{EntryFits}
use Rattle.rows.specs.Curve.{sums_at, curve_rows}
use Rattle.rows.specs.Faults.{fault_at}
use Rattle.rows.specs.Limits.{Limits}

-- of a job within the limits, the sums of each row at each total from 1 to X, where no earlier total has a fault: so those of every total
-- of an accepted job, and those of the first total that has a fault
abbrev pub SumsFit : Type 0
SumsFit = (job : Job) (weights : List ℕ) → Limits job weights → (x : ℕ) → x < job.last
    → FailBelow (fault_at job.law.order (curve_rows job weights)) (suc x)
    → (j : ℕ) → j < job.law.order → EntryFits (sums_at job.law weights (curve_rows job weights) j (suc x))
