-- The checks of a call, and after them the check of its own row, are its list of conditions: where the checks refuse, so does the call, and
-- else the row's check decides.
use mathlib.Core.Path.{◌≡◌, refl, sym, ◌∙◌, ap, ap₂}
use mathlib.Core.Bool.{Bool, true, false, cond}
use mathlib.Core.List.{List, [], ◌∷◌}
use Prim.Native.Nat.{ℕ}
use lib.Dec.{eqb}
use lib.IntN.{ℤ}
use lib.ListN.{length}
use Rattle.std.specs.Prelude.{Err, Some, None}
use Rattle.std.specs.Option.{ok_or}
use Rattle.model.specs.declared.refusal.Refusal.{Refusal}
use Rattle.model.specs.Answer.{Answer, accepted, refused, first_refusal}
use Rattle.model.proofs.Answer.{step_refuses, step_accepts, none_holds}
use Rattle.intervals.specs.Checks.{wrong_lengths, rows_condition, entry_condition}
use Rattle.quantile.specs.declared.Reason.{Reason}
use Rattle.quantile.specs.declared.Reason.TheVariants.{Rows, Level, Entry, LowsShort, HighsShort}
use Rattle.quantile.specs.Call.{number_of, level_condition, paper, quantile_of, checks}
use Rattle.quantile.specs.Call.{unreached, total_found, reach_check, answered, query_by}

-- no reason has the number of an acceptance
pub numbered : (reason : Reason) → eqb (number_of reason) 0 ≡ false
numbered Rows = refl
numbered Level = refl
numbered Entry = refl
numbered LowsShort = refl
numbered HighsShort = refl

-- ---- the checks
module _ (low high : List ℤ) (level : ℤ) where
  pub lengths_refuse : (reason : Reason) (place : ℕ) → refused (number_of reason) place ≡ first_refusal (rows_condition low high ∷ [])
      → refused (number_of reason) place ≡ first_refusal (checks low high level)
  lengths_refuse reason place e =
      step_refuses (rows_condition low high ∷ []) (level_condition level ∷ entry_condition low high ∷ []) _ _ (numbered reason) e

  -- after 31
  pub lengths_right : accepted ≡ first_refusal (rows_condition low high ∷ []) → wrong_lengths (length low) (length high) ≡ false
  lengths_right e = (none_holds (rows_condition low high ∷ []) [] tt (sym e)).0 31

  pub later : accepted ≡ first_refusal (rows_condition low high ∷ [])
      → first_refusal (level_condition level ∷ entry_condition low high ∷ []) ≡ first_refusal (checks low high level)
  later e = step_accepts (rows_condition low high ∷ []) (level_condition level ∷ entry_condition low high ∷ []) tt e

  pub level_refuses : (reason : Reason) (place : ℕ) → accepted ≡ first_refusal (rows_condition low high ∷ [])
      → refused (number_of reason) place ≡ first_refusal (level_condition level ∷ [])
      → refused (number_of reason) place ≡ first_refusal (checks low high level)
  level_refuses reason place lengths e =
      step_refuses (level_condition level ∷ []) (entry_condition low high ∷ []) _ _ (numbered reason) e ∙ later lengths

  -- after 32
  pub entries_last : accepted ≡ first_refusal (rows_condition low high ∷ []) → accepted ≡ first_refusal (level_condition level ∷ [])
      → first_refusal (entry_condition low high ∷ []) ≡ first_refusal (checks low high level)
  entries_last lengths right = step_accepts (level_condition level ∷ []) (entry_condition low high ∷ []) tt right ∙ later lengths

-- ---- a call by one of the rows
-- after a refusal the total is 0
refused_is : (refusal : Refusal Reason) (total : ℕ)
    → paper (Err refusal) ≡ answered (refused (number_of refusal.reason) refusal.place) total
refused_is refusal total = rw (numbered refusal.reason)

module _ (row : List ℤ) (level : ℤ) where
  -- the row's own check, by a refusal that has its number and no place
  pub found_is : (refusal : Refusal Reason) (short : Reason) → (refusal.reason ≡ short) × (refusal.place ≡ 0)
      → paper (ok_or (total_found row level) refusal)
      ≡ answered (first_refusal (reach_check row (number_of short) level)) (quantile_of row level)
  unfolding first_refusal
  found_is refusal short e = by (unreached row level)
    where
      by : (u : Bool) → paper (ok_or (cond u None (Some (quantile_of row level))) refusal)
          ≡ answered (cond u (refused (number_of short) 0) accepted) (quantile_of row level)
      by true =
          refused_is refusal (quantile_of row level)
          ∙ ap₂ (λ (reason : Reason) (place : ℕ). answered (refused (number_of reason) place) (quantile_of row level)) e.0 e.1
      by false = refl

module _ (row : List ℤ) (number : ℕ) (low high : List ℤ) (level : ℤ) where
  pub checks_refuse : (refusal : Refusal Reason)
      → refused (number_of refusal.reason) refusal.place ≡ first_refusal (checks low high level)
      → paper (Err refusal) ≡ query_by row number low high level
  checks_refuse refusal e =
      refused_is refusal (quantile_of row level) ∙ ap (λ (a : Answer). answered a (quantile_of row level))
      (step_refuses (checks low high level) (reach_check row number level) _ _ (numbered refusal.reason) e)

  pub row_decides : accepted ≡ first_refusal (checks low high level)
      → answered (first_refusal (reach_check row number level)) (quantile_of row level) ≡ query_by row number low high level
  row_decides e =
      ap (λ (a : Answer). answered a (quantile_of row level)) (step_accepts (checks low high level) (reach_check row number level) tt e)
