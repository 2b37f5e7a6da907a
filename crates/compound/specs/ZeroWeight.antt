-- "With weight 0 the curve answers as before": as in the paper before tables had a weight for severity 0.
use Rattle.std.specs.Prelude.{◌≡◌, cond, List, ◌++◌, ℕ, suc, ◌*◌, ◌<◌}
use Rattle.model.specs.declared.Job.{Job}
use Rattle.model.specs.Weights.{total_weight, all_weight}
use Rattle.model.specs.Answer.{is_accepted, first_refusal}
use Rattle.enclosure.specs.Entry.{rounded}
use Rattle.rows.specs.Curve.{first_entry, sums_at, curve_rows}
use Rattle.compound.specs.Lent.{Lent}
use Rattle.compound.specs.Call.{job_checks, room_checks, faults, curve_answer, ran, curve_lent}

-- its list of conditions has 11, 12 and 13 no more, and 6 is of the row's sum; where no condition but 9 and 10 holds it has run; at total 0
-- are the start's entries; later row 0 has the divisor "D times x times W", and the others W
abbrev pub ZeroWeightAsBefore : Type 0
ZeroWeightAsBefore = (job : Job) (weights : List ℕ) → job.zero ≡ 0
    → ((lent : Lent) → curve_answer job weights lent ≡ first_refusal (job_checks job weights ++ (room_checks job lent ++ faults job weights)))
    × (all_weight job.zero weights ≡ total_weight weights)
    × ((lent : Lent) → curve_lent job weights lent
    ≡ cond (is_accepted (first_refusal (job_checks job weights ++ room_checks job lent))) (ran job weights lent) lent)
    × ((j : ℕ) → j < job.law.order → curve_rows job weights j 0 ≡ first_entry job.start j)
    × ((x : ℕ) → 0 < job.law.order → curve_rows job weights 0 (suc x)
    ≡ rounded (job.law.divisor * suc x * total_weight weights) (sums_at job.law weights (curve_rows job weights) 0 (suc x)))
    × ((j x : ℕ) → suc j < job.law.order → curve_rows job weights (suc j) (suc x)
    ≡ rounded (total_weight weights) (sums_at job.law weights (curve_rows job weights) (suc j) (suc x)))
