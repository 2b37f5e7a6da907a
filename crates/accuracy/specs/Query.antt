-- What the level queries on the rows of an accepted job say of the job's exact amounts.
use Rattle.std.specs.Prelude.{◌≡◌, List, ◌∷◌, ℕ, ℤ}
use Rattle.model.specs.declared.Job.{Job}
use Rattle.model.specs.Answer.{condition, first_refusal}
use Rattle.compound.specs.Lent.{Lent}
use Rattle.quantile.specs.Call.{wrong_level, reach_check, sure_query, possible_query}
use Rattle.quantile.specs.Enclosed.{QueriesTrue}
use Rattle.accuracy.specs.Accuracy.{Accepted}
use Rattle.accuracy.specs.Rows.{lows, highs, OfEveryStart}

-- of a query's four conditions only 32, its level, and its own, 34 or 35, a level that their sums do not reach, can hold on them
abbrev pub RowsNotRefused : Type 0
RowsNotRefused = (job : Job) (weights : List ℕ) (lent : Lent) → Accepted job weights lent → (level : ℤ)
    → let low = lows job weights lent in
    let high = highs job weights lent in
    ((sure_query low high level).answer ≡ first_refusal (condition (wrong_level level) 32 0 ∷ reach_check low 34 level))
    × ((possible_query low high level).answer ≡ first_refusal (condition (wrong_level level) 32 0 ∷ reach_check high 35 level))

-- what the queries tell is true of the exact amounts: where sure is accepted these have a quantile, and it lies from possible to sure;
-- where possible alone is, a quantile of theirs is at least possible; after 35 no sum of theirs, from 0 to a total up to X, reaches the
-- level
abbrev pub EnclosesQuantile : Type 0
EnclosesQuantile = OfEveryStart (λ low high amounts. (level : ℤ) → QueriesTrue low high level amounts)
