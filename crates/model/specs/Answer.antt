-- The answer of a call in the paper's numbers, and how a call comes to refuse.
use Rattle.std.specs.Prelude.{Bool, cond, List, [], ◌∷◌, ℕ, eqb, Result, Ok, Err}
use Rattle.model.specs.declared.refusal.Refusal.{Refusal}

-- the number of a refusal and its place; the number 0 stands for an acceptance
pub record Answer : Type 0 where
  pub number : ℕ
  pub place : ℕ

abbrev pub accepted : Answer
accepted = record { number = 0; place = 0 }

abbrev pub refused : ℕ → ℕ → Answer
refused number place = record { number = number; place = place }

abbrev pub is_accepted : Answer → Bool
is_accepted answer = eqb answer.number 0

-- what the code answers, in the paper's numbers: `number_of` says what the paper calls each reason
abbrev pub number_in : {A R : Type 0} → (R → ℕ) → Result A R → ℕ
number_in number_of (Ok _) = 0
number_in number_of (Err reason) = number_of reason

abbrev pub place_in : {A R : Type 0} → Result A (Refusal R) → ℕ
place_in (Ok _) = 0
place_in (Err refusal) = refusal.place

abbrev pub answer_of : {A R : Type 0} → (R → ℕ) → Result A (Refusal R) → Answer
answer_of number_of (Ok _) = accepted
answer_of number_of (Err refusal) = refused (number_of refusal.reason) refusal.place

-- a condition of a call's list, with the number and the place of its refusal
pub record Condition : Type 0 where
  pub holds : Bool
  pub number : ℕ
  pub place : ℕ

abbrev pub condition : Bool → ℕ → ℕ → Condition
condition holds number place = record { holds = holds; number = number; place = place }

-- "A call refuses when a condition of its list holds, by the first in the order given, and never else."
unfoldable pub first_refusal : List Condition → Answer
first_refusal [] = accepted
first_refusal (c ∷ cs) = cond c.holds (refused c.number c.place) (first_refusal cs)
