-- The level query, in two calls, sure and possible. Each "takes a low row, a high row and a level L", and answers one total.
use Rattle.std.specs.Prelude.{Bool, ◌||◌, cond, List, [], ◌∷◌, ◌++◌, ℕ, suc, eqb, ℤ, pos, length, get_or, Result, Ok, Err}
use Rattle.std.specs.Prelude.{Option, Some, None}
use Rattle.std.specs.Int.Signed.{le_z, lt_z}
use Rattle.algebra.specs.Smallest.{smallest}
use Rattle.algebra.specs.Sum.{sumℤ}
use Rattle.model.specs.Answer.{Answer, Condition, accepted, refused, is_accepted, condition, first_refusal}
use Rattle.model.specs.declared.refusal.Refusal.{Refusal}
use Rattle.model.specs.Limits.{unit}
use Rattle.intervals.specs.Checks.{rows_condition, entry_condition}
use Rattle.quantile.specs.declared.Reason.{Reason}
use Rattle.quantile.specs.declared.Reason.TheVariants.{Rows, Level, Entry, LowsShort, HighsShort}

-- ---- the answer
abbrev pub number_of : Reason → ℕ
number_of Rows = 31
number_of Level = 32
number_of Entry = 33
number_of LowsShort = 34
number_of HighsShort = 35

-- what a call tells
pub record Found : Type 0 where
  pub answer : Answer
  pub total : ℕ

-- what the paper says for each answer of the code; after a refusal "the other numbers in its answer are 0"
abbrev pub paper : Result ℕ (Refusal Reason) → Found
paper (Ok total) = record { answer = accepted; total = total }
paper (Err refusal) = record { answer = refused (number_of refusal.reason) refusal.place; total = 0 }

-- ---- the search
-- the sum of a row's entries "from 0 to" x
abbrev pub running_sum : List ℤ → ℕ → ℤ
running_sum row x = sumℤ (suc x) (λ z. get_or row z (pos 0))

-- "the smallest whose sum .. reaches L", and the row's length where there is none: on the lows the paper's "sure", on the highs its
-- "possible"
unfoldable pub quantile_of : List ℤ → ℤ → ℕ
quantile_of row level = smallest (λ x. le_z level (running_sum row x)) (length row)

-- ---- the refusals
-- 32: "L not 1 to U"
abbrev pub wrong_level : ℤ → Bool
wrong_level level = lt_z level (pos 1) || lt_z (pos unit) level

abbrev pub level_condition : ℤ → Condition
level_condition level = condition (wrong_level level) 32 0

-- "Checks 31 to 33 stay in both"
abbrev pub checks : List ℤ → List ℤ → ℤ → List Condition
checks low high level = rows_condition low high ∷ level_condition level ∷ entry_condition low high ∷ []

-- 34, of the lows: "no total has a sum of lows, from 0 to it, of L or more"; 35, of the highs: "when no sum of highs reaches L". The search
-- then comes to the row's end.
abbrev pub unreached : List ℤ → ℤ → Bool
unreached row level = eqb (quantile_of row level) (length row)

-- the same as the code finds it: none where there is none
abbrev pub total_found : List ℤ → ℤ → Option ℕ
total_found row level = cond (unreached row level) None (Some (quantile_of row level))

abbrev pub reach_check : (row : List ℤ) (number : ℕ) (level : ℤ) → List Condition
reach_check row number level = condition (unreached row level) number 0 ∷ []

-- ---- the calls
-- the total of an acceptance; after a refusal it is 0
abbrev pub answered : Answer → ℕ → Found
answered answer total = record { answer = answer; total = cond (is_accepted answer) total 0 }

-- a call by one of the two rows, with the number of its own refusal
abbrev pub query_by : (row : List ℤ) (number : ℕ) (low high : List ℤ) (level : ℤ) → Found
query_by row number low high level =
    answered (first_refusal (checks low high level ++ reach_check row number level)) (quantile_of row level)

-- sure, "the smallest whose sum of lows reaches L"; "34 belongs to sure"
unfoldable pub sure_query : List ℤ → List ℤ → ℤ → Found
sure_query low high level = query_by low 34 low high level

-- possible, "the smallest whose sum of highs does"; "It refuses with 35, in the possible call and after the others"
unfoldable pub possible_query : List ℤ → List ℤ → ℤ → Found
possible_query low high level = query_by high 35 low high level
