-- What layer costs on the rows of an accepted job say of the job's exact amounts.
use Rattle.std.specs.Prelude.{◌≡◌, List, ◌∷◌, ℕ, ℤ, length}
use Rattle.model.specs.declared.Job.{Job}
use Rattle.model.specs.Answer.{condition, first_refusal}
use Rattle.compound.specs.Lent.{Lent}
use Rattle.layer.specs.declared.LayerList.{LayerList}
use Rattle.layer.specs.Call.{wrong_count, all_layer_checks, layer_costs}
use Rattle.layer.specs.Enclosed.{EnclosesPaid}
use Rattle.accuracy.specs.Accuracy.{Accepted}
use Rattle.accuracy.specs.Rows.{lows, highs, OfEveryStart}

-- of the call's conditions only those of the list can hold on them, 61, 62 and 63
abbrev pub LayerRowsNotRefused : Type 0
LayerRowsNotRefused = (job : Job) (weights : List ℕ) (lent : Lent) → Accepted job weights lent
    → (list : LayerList) (answer_low answer_high : List ℤ)
    → let low = lows job weights lent in
    (layer_costs low (highs job weights lent) list answer_low answer_high).answer
    ≡ first_refusal (condition (wrong_count list.count (length answer_low) (length answer_high)) 61 0 ∷ all_layer_checks (length low) list)

-- where it is accepted, what a layer pays on average lies from its low to its high: the sum of payment times amount, over the exact amounts
-- below the limit, for any starting chance, and any further amounts with which all sum to U (`Continues`, layer/specs/Enclosed)
abbrev pub JobEnclosesLayer : Type 0
JobEnclosesLayer = OfEveryStart EnclosesPaid
