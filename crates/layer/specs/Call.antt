-- Layer costs: "From a curve's rows and up to 64 layers, give for each layer the mean claim between an attachment c and a limit d, in
-- billionths."
use Rattle.std.specs.Prelude.{Bool, not, ◌||◌, cond, List, [], ◌∷◌, ◌++◌, ℕ, zero, suc, ltb, ℤ, length, get_or, Result}
use Rattle.algebra.specs.Slice.{listed, written}
use Rattle.model.specs.declared.refusal.Refusal.{Refusal}
use Rattle.model.specs.Answer.{Answer, Condition, answer_of, is_accepted, condition, first_refusal}
use Rattle.model.specs.Limits.{outside}
use Rattle.intervals.specs.Checks.{rows_condition, entry_condition}
use Rattle.layer.specs.declared.LayerList.{LayerList}
use Rattle.layer.specs.declared.Reason.{Reason}
use Rattle.layer.specs.declared.Reason.TheVariants.{Rows, Entry, Count, Attachment, Limit}
use Rattle.layer.specs.Layer.{cost_by}

-- ---- the answer
abbrev pub number_of : Reason → ℕ
number_of Rows = 31
number_of Entry = 33
number_of Count = 61
number_of Attachment = 62
number_of Limit = 63

-- what the paper says for each answer of the code
abbrev pub paper : {A : Type 0} → Result A (Refusal Reason) → Answer
paper result = answer_of number_of result

-- what a call tells: its answer, and the two answer rows afterwards
pub record LayerCosts : Type 0 where
  pub answer : Answer
  pub low : List ℤ
  pub high : List ℤ

abbrev pub tells_costs : Answer → (low high : List ℤ) → LayerCosts
tells_costs answer low high = record { answer = answer; low = low; high = high }

-- ---- a list of layers
-- "up to 64 layers"
abbrev pub most_layers : ℕ
most_layers = 64

-- a count, and two arrays whose first places are the layers'
abbrev pub layer_list : (count : ℕ) (attachments limits : List ℕ) → LayerList
layer_list count attachments limits = record { count = count; attachments = attachments; limits = limits }

-- layer i, from 0, lies between these
abbrev pub attachment : LayerList → ℕ → ℕ
attachment list i = get_or list.attachments i 0

abbrev pub limit : LayerList → ℕ → ℕ
limit list i = get_or list.limits i 0

-- the costs of all layers by the entries of a row
abbrev pub costs_by : List ℤ → LayerList → List ℤ
costs_by row list = listed (λ i. cost_by row (attachment list i) (limit list i)) list.count

-- ---- the refusals
-- 61: "a list that is empty, longer than 64 or longer than a lent row for the answers", by the lengths of these
abbrev pub wrong_count : (count low_places high_places : ℕ) → Bool
wrong_count count low_places high_places = outside 1 most_layers count || (ltb low_places count || ltb high_places count)

abbrev pub count_condition : (count low_places high_places : ℕ) → Condition
count_condition count low_places high_places = condition (wrong_count count low_places high_places) 61 0

-- "31 and 33 come first", as in a level query
abbrev pub list_checks : (low high : List ℤ) (count low_places high_places : ℕ) → List Condition
list_checks low high count low_places high_places =
    rows_condition low high ∷ entry_condition low high ∷ count_condition count low_places high_places ∷ []

-- of layer i, on rows of so many places: "with 62 a c not below d, then 63 a d above the rows' length"
abbrev pub layer_conditions : (places c d i : ℕ) → List Condition
layer_conditions places c d i = condition (not (ltb c d)) 62 i ∷ condition (ltb places d) 63 i ∷ []

-- "layer by layer", here n of them from layer i on; so the place "is the smallest layer at fault"
unfoldable pub layer_checks : (places : ℕ) (attachments limits : List ℕ) (n i : ℕ) → List Condition
layer_checks places attachments limits zero i = []
layer_checks places attachments limits (suc n) i =
    layer_conditions places (get_or attachments i 0) (get_or limits i 0) i ++ layer_checks places attachments limits n (suc i)

-- all of them, "from 0"
abbrev pub all_layer_checks : (places : ℕ) → LayerList → List Condition
all_layer_checks places list = layer_checks places list.attachments list.limits list.count 0

abbrev pub checks : (low high : List ℤ) → LayerList → (low_places high_places : ℕ) → List Condition
checks low high list low_places high_places =
    list_checks low high list.count low_places high_places ++ all_layer_checks (length low) list

-- ---- the call
-- an answer row afterwards: its first places hold the costs; "a refusal writes nothing"
abbrev pub row_after : Answer → (costs row : List ℤ) → List ℤ
row_after answer costs row = cond (is_accepted answer) (written costs row) row

-- "the low uses the highs", and the high the lows
abbrev pub answered : Answer → (low high : List ℤ) → LayerList → (answer_low answer_high : List ℤ) → LayerCosts
answered answer low high list answer_low answer_high =
    tells_costs answer (row_after answer (costs_by high list) answer_low) (row_after answer (costs_by low list) answer_high)

unfoldable pub layer_costs : (low high : List ℤ) → LayerList → (answer_low answer_high : List ℤ) → LayerCosts
layer_costs low high list answer_low answer_high =
    answered (first_refusal (checks low high list (length answer_low) (length answer_high))) low high list answer_low answer_high
