-- Such rows are not refused by 31 or 33, and they enclose the exact amounts; so what the layers pay on average is enclosed too.
use mathlib.Core.Path.{◌∙◌}
use Rattle.model.proofs.Answer.{first_fails}
use Rattle.exact.specs.JobAmount.{amount}
use Rattle.layer.specs.Call.{layer_costs}
use Rattle.layer.proofs.Enclosed.{encloses_continued}
use Rattle.accuracy.specs.Layer.{LayerRowsNotRefused, JobEnclosesLayer}
use Rattle.accuracy.proofs.Rows.{right_lengths, right_entries, rows_enclose}

pub layer_rows_not_refused : LayerRowsNotRefused
unfolding layer_costs
layer_rows_not_refused job weights lent ok list answer_low answer_high =
    first_fails _ _ (right_lengths job weights lent ok) ∙ first_fails _ _ (right_entries job weights lent ok)

pub job_encloses_layer : JobEnclosesLayer
job_encloses_layer job weights lent ok h p s t =
    encloses_continued _ _ (amount job weights h p) (rows_enclose job weights lent ok h p s t)
