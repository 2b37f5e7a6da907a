-- The steps of the call are its list of conditions: where the checks refuse, so does the call, and the answer rows are as they were.
use mathlib.Core.Path.{◌≡◌, refl, sym, ◌∙◌, ap, ap₂}
use mathlib.Core.Bool.{Bool, false, cond}
use mathlib.Core.List.{List, [], ◌∷◌, ◌++◌}
use Prim.Native.Nat.{ℕ}
use lib.Dec.{eqb}
use lib.IntN.{ℤ}
use lib.ListN.{length}
use Rattle.algebra.specs.Slice.{written}
use Rattle.model.specs.declared.refusal.Refusal.{Refusal}
use Rattle.model.specs.Answer.{Answer, Condition, accepted, refused, first_refusal}
use Rattle.model.proofs.Answer.{step_refuses, step_accepts, none_holds}
use Rattle.intervals.specs.Checks.{wrong_lengths, rows_condition, entry_condition}
use Rattle.layer.specs.declared.LayerList.{LayerList}
use Rattle.layer.specs.declared.Reason.{Reason}
use Rattle.layer.specs.declared.Reason.TheVariants.{Rows, Entry, Count, Attachment, Limit}
use Rattle.layer.specs.Call.{number_of, tells_costs, costs_by, wrong_count, count_condition, all_layer_checks, checks}
use Rattle.layer.specs.Call.{row_after, answered, layer_costs}

-- no reason has the number of an acceptance
numbered : (reason : Reason) → eqb (number_of reason) 0 ≡ false
numbered Rows = refl
numbered Entry = refl
numbered Count = refl
numbered Attachment = refl
numbered Limit = refl

-- ---- the checks, one after the other: each that is left to do answers for the call
module _ (low high : List ℤ) (list : LayerList) (low_places high_places : ℕ) where
  abbrev lengths : List Condition
  lengths = rows_condition low high ∷ []

  abbrev entries : List Condition
  entries = entry_condition low high ∷ []

  abbrev count : List Condition
  count = count_condition list.count low_places high_places ∷ []

  abbrev layers : List Condition
  layers = all_layer_checks (length low) list

  abbrev answer : Answer
  answer = first_refusal (checks low high list low_places high_places)

  pub lengths_refuse : (reason : Reason) (place : ℕ) → refused (number_of reason) place ≡ first_refusal lengths
      → refused (number_of reason) place ≡ answer
  lengths_refuse reason place e = step_refuses lengths (entries ++ count ++ layers) _ _ (numbered reason) e

  module _ (lengths_right : accepted ≡ first_refusal lengths) where
    pub right_lengths : wrong_lengths (length low) (length high) ≡ false
    right_lengths = (none_holds lengths [] tt (sym lengths_right)).0 31

    after_lengths : first_refusal (entries ++ count ++ layers) ≡ answer
    after_lengths = step_accepts lengths (entries ++ count ++ layers) tt lengths_right

    pub entries_refuse : (reason : Reason) (place : ℕ) → refused (number_of reason) place ≡ first_refusal entries
        → refused (number_of reason) place ≡ answer
    entries_refuse reason place e = step_refuses entries (count ++ layers) _ _ (numbered reason) e ∙ after_lengths

    module _ (entries_right : accepted ≡ first_refusal entries) where
      after_entries : first_refusal (count ++ layers) ≡ answer
      after_entries = step_accepts entries (count ++ layers) tt entries_right ∙ after_lengths

      pub count_refuses : (reason : Reason) (place : ℕ) → refused (number_of reason) place ≡ first_refusal count
          → refused (number_of reason) place ≡ answer
      count_refuses reason place e = step_refuses count layers _ _ (numbered reason) e ∙ after_entries

      module _ (count_right : accepted ≡ first_refusal count) where
        pub right_count : wrong_count list.count low_places high_places ≡ false
        right_count = (none_holds count [] tt (sym count_right)).0 61

        pub layers_last : first_refusal layers ≡ answer
        layers_last = step_accepts count layers tt count_right ∙ after_entries

-- ---- the call
-- after a refusal a row is as it was
not_taken : (t : Bool) (front row : List ℤ) → t ≡ false → cond t front row ≡ row
not_taken t front row e = rw e

kept : (refusal : Refusal Reason) (costs row : List ℤ) → row_after (refused (number_of refusal.reason) refusal.place) costs row ≡ row
kept refusal costs row = not_taken _ _ row (numbered refusal.reason)

module _ (low high : List ℤ) (list : LayerList) (answer_low answer_high : List ℤ) where
  -- the answer of the call's conditions
  abbrev pub answer_of : Answer
  answer_of = first_refusal (checks low high list (length answer_low) (length answer_high))

  pub costs_are : {answer : Answer} → answer ≡ answer_of
      → answered answer low high list answer_low answer_high ≡ layer_costs low high list answer_low answer_high
  unfolding layer_costs
  costs_are e = ap (λ (a : Answer). answered a low high list answer_low answer_high) e

  pub refuses : (refusal : Refusal Reason) → refused (number_of refusal.reason) refusal.place ≡ answer_of
      → tells_costs (refused (number_of refusal.reason) refusal.place) answer_low answer_high
      ≡ layer_costs low high list answer_low answer_high
  refuses refusal e =
      sym (ap₂ (tells_costs (refused (number_of refusal.reason) refusal.place))
      (kept refusal (costs_by high list) answer_low) (kept refusal (costs_by low list) answer_high))
      ∙ costs_are e

  pub accepts : accepted ≡ answer_of
      → tells_costs accepted (written (costs_by high list) answer_low) (written (costs_by low list) answer_high)
      ≡ layer_costs low high list answer_low answer_high
  accepts e = costs_are e
