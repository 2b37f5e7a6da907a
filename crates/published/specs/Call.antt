-- Wish 3: "Customers copy coefficients from two publications. .. Turn either, of order 1, into our terms."
use Rattle.std.specs.Prelude.{Bool, not, ◌||◌, cond, List, [], ◌∷◌, ℕ, ℤ, pos, neg_ℤ, nat_abs, ◌-ℤ◌, Result, Ok, Err}
use Rattle.std.specs.Int.Signed.{lt_z}
use Rattle.algebra.specs.Table.{same_integer}
use Rattle.model.specs.declared.Law.{Law}
use Rattle.model.specs.Job.{law_of}
use Rattle.model.specs.Answer.{Answer, Condition, accepted, refused, is_accepted, condition, first_refusal}
use Rattle.model.specs.Limits.{outside, beyond}
use Rattle.published.specs.declared.Reason.{Reason}
use Rattle.published.specs.declared.Reason.TheVariants.{Constant, Coefficient, Limits}

-- ---- the answer
abbrev pub number_of : Reason → ℕ
number_of Constant = 51
number_of Coefficient = 52
number_of Limits = 53

-- the number of a refusal, 0 for none, with its place, which is always 0; and the law
pub record Made : Type 0 where
  pub answer : Answer
  pub law : Law

abbrev pub answered : Answer → Law → Made
answered answer law = record { answer = answer; law = law }

-- ---- "Turn either, of order 1, into our terms"
-- with k, D, A_1 and B_1; "Terms past k are zero."
abbrev pub law_of_term : (k D : ℕ) (A B : ℤ) → Law
law_of_term k D A B = law_of k D (A ∷ pos 0 ∷ pos 0 ∷ pos 0 ∷ []) (B ∷ pos 0 ∷ pos 0 ∷ pos 0 ∷ [])

-- "all signs turned if D is negative": z, its sign turned then
abbrev pub turn : (D z : ℤ) → ℤ
turn D z = cond (lt_z D (pos 0)) (neg_ℤ z) z

-- "Nothing is reduced." Turned, D is 0 or more, so that it is its own size.
abbrev pub turned_law : (D A B : ℤ) → Law
turned_law D A B = law_of_term 1 (nat_abs (turn D D)) (turn D A) (turn D B)

-- ---- "It refuses with 51 a constant on the left that is not zero, then 52 a zero coefficient of n on the left, then 53 a D or term
-- outside our limits."
abbrev pub wrong_law : (D A B : ℤ) → Bool
wrong_law D A B = outside 1 1000 (nat_abs (turn D D)) || (beyond 1000 (turn D A) || beyond 1000 (turn D B))

abbrev pub checks : (constant D A B : ℤ) → List Condition
checks constant D A B =
    condition (not (same_integer constant (pos 0))) 51 0
    ∷ condition (same_integer D (pos 0)) 52 0
    ∷ condition (wrong_law D A B) 53 0
    ∷ []

-- ---- the calls
-- "the other numbers in its answer are 0" after a refusal
abbrev pub no_law : Law
no_law = law_of_term 0 0 (pos 0) (pos 0)

-- what the paper says for each answer of the code
abbrev pub paper : Result Law Reason → Made
paper (Ok law) = answered accepted law
paper (Err reason) = answered (refused (number_of reason) 0) no_law

abbrev pub unless_refused : Answer → Law → Made
unless_refused answer law = answered answer (cond (is_accepted answer) law no_law)

unfoldable pub law_of_line : (constant D A B : ℤ) → Made
law_of_line constant D A B = unless_refused (first_refusal (checks constant D A B)) (turned_law D A B)

-- "D is the coefficient of n on the left, A is β_1 or a_1, B is β_0 - β_1 or a_0"
abbrev pub law_of_panjer_willmot : (α₀ α₁ β₀ β₁ : ℤ) → Made
law_of_panjer_willmot α₀ α₁ β₀ β₁ = law_of_line α₀ α₁ β₁ (β₀ -ℤ β₁)

abbrev pub law_of_hesselager : (b₀ b₁ a₀ a₁ : ℤ) → Made
law_of_hesselager b₀ b₁ a₀ a₁ = law_of_line b₀ b₁ a₁ a₀
