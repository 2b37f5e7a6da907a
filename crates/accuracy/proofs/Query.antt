-- Such rows are not refused by 31 or 33, and they enclose the exact amounts; so what the level queries tell is true of these.
use mathlib.Core.Path.{◌≡◌}
use mathlib.Core.List.{List, ◌∷◌}
use Prim.Native.Nat.{ℕ}
use lib.IntN.{ℤ}
use Rattle.model.specs.declared.Job.{Job}
use Rattle.model.specs.Answer.{condition, first_refusal}
use Rattle.exact.specs.JobAmount.{amount}
use Rattle.compound.specs.Lent.{Lent}
use Rattle.quantile.specs.Call.{wrong_level, reach_check, query_by, sure_query, possible_query}
use Rattle.quantile.proofs.Enclosed.{quantile_enclosed}
use Rattle.accuracy.specs.Accuracy.{Accepted}
use Rattle.accuracy.specs.Rows.{lows, highs}
use Rattle.accuracy.specs.Query.{RowsNotRefused, EnclosesQuantile}
use Rattle.accuracy.proofs.Rows.{right_lengths, right_entries, rows_enclose}

-- the level's two conditions are left
level_alone : (job : Job) (weights : List ℕ) (lent : Lent) → Accepted job weights lent → (row : List ℤ) (number : ℕ) (level : ℤ)
    → (query_by row number (lows job weights lent) (highs job weights lent) level).answer
    ≡ first_refusal (condition (wrong_level level) 32 0 ∷ reach_check row number level)
unfolding first_refusal
level_alone job weights lent ok row number level =
    rw (right_lengths job weights lent ok, right_entries job weights lent ok)

pub rows_not_refused : RowsNotRefused
unfolding sure_query possible_query
rows_not_refused job weights lent ok level = (level_alone job weights lent ok _ 34 level, level_alone job weights lent ok _ 35 level)

pub encloses_quantile : EnclosesQuantile
encloses_quantile job weights lent ok h p s t level =
    quantile_enclosed _ _ level (amount job weights h p) (rows_enclose job weights lent ok h p s t)
