-- Laws of `first_refusal`, by induction on the list of conditions. A call comes to its answer by `Due`, one condition after the other; what an
-- acceptance, or a later list's refusal, says of each condition is `none_holds`.
use mathlib.Core.Path.{◌≡◌, refl, sym, ◌∙◌, ap}
use mathlib.Core.Bool.{Bool, true, false, not, cond, true≢false}
use mathlib.Core.List.{List, [], ◌∷◌, ◌++◌}
use Prim.Native.Nat.{ℕ, zero, suc}
use native.Mathlib.Omega.{arith}
use native.Mathlib.Numerals.{add-one}
use borrow.Author.Count.{below_none, below_more}
use borrow.Author.Tests.{eq-eqb, ne_eqb}
use lib.Dec.{T, eqb}
use lib.ListN.{length, get_or, drop}
use Rattle.algebra.specs.Smallest.{FailBelow}
use Rattle.algebra.specs.Table.{every}
use Rattle.algebra.proofs.Table.{and_left, and_right}
use Rattle.model.specs.Answer.{Answer, Condition, accepted, refused, is_accepted, condition, first_refusal}

pub first_none : first_refusal [] ≡ accepted
unfolding first_refusal
first_none = refl

-- the first condition of a list, where it holds and where it does not
pub first_holds : (c : Condition) (rest : List Condition) → c.holds ≡ true → first_refusal (c ∷ rest) ≡ refused c.number c.place
unfolding first_refusal
first_holds c rest e = rw e

pub first_fails : (c : Condition) (rest : List Condition) → c.holds ≡ false → first_refusal (c ∷ rest) ≡ first_refusal rest
unfolding first_refusal
first_fails c rest e = rw e

-- what holds of the first condition's refusal, or else of the answer of the rest, holds of the answer
pub by_first : (P : Answer → Type 0) (t : Bool) (number place : ℕ) (rest : List Condition) → (t ≡ true → P (refused number place))
    → (t ≡ false → P (first_refusal rest)) → P (first_refusal (condition t number place ∷ rest))
unfolding first_refusal
by_first P true number place rest this others = this refl
by_first P false number place rest this others = others refl

-- no condition of the list has this number
abbrev pub lacks : ℕ → List Condition → Bool
lacks number = every (λ c. not (eqb c.number number))

-- none has the acceptance's 0
abbrev pub all_numbered : List Condition → Bool
all_numbered = lacks 0

other_number : (number : ℕ) (c : Condition) (cs : List Condition) → T (lacks number (c ∷ cs)) → ¬ (c.number ≡ number)
other_number number c cs t e = rw (eq-eqb c.number number e) at (and_left (not (eqb c.number number)) (lacks number cs) t)

-- two lists, one after the other: the second counts where the first refuses nothing
pub first_append : (cs ds : List Condition) → T (all_numbered cs)
    → first_refusal (cs ++ ds) ≡ cond (is_accepted (first_refusal cs)) (first_refusal ds) (first_refusal cs)
unfolding first_refusal
first_append [] ds t = refl
first_append (c ∷ cs) ds t = by c.holds (first_append cs ds (and_right (not (eqb c.number 0)) (all_numbered cs) t))
  where
    refusal : Answer
    refusal = refused c.number c.place

    by : (b : Bool) → first_refusal (cs ++ ds) ≡ cond (is_accepted (first_refusal cs)) (first_refusal ds) (first_refusal cs)
        → cond b refusal (first_refusal (cs ++ ds)) ≡ cond (is_accepted (cond b refusal (first_refusal cs))) (first_refusal ds) (cond b refusal (first_refusal cs))
    by true e = rw (ne_eqb c.number 0 (other_number 0 c cs t))
    by false e = e

-- ---- one condition after the other
abbrev none : Condition
none = condition false 0 0

-- condition n of a list, from 0; past its end, one that does not hold
abbrev condition_at : List Condition → ℕ → Condition
condition_at cs n = get_or cs n none

abbrev holds_at : List Condition → ℕ → Bool
holds_at cs n = (condition_at cs n).holds

-- the first that holds refuses
first_refuses : (cs : List Condition) (n : ℕ) → FailBelow (holds_at cs) n → holds_at cs n ≡ true
    → first_refusal cs ≡ refused (condition_at cs n).number (condition_at cs n).place
unfolding first_refusal
first_refuses [] n fails e = absurd (true≢false (sym e))
first_refuses (c ∷ cs) zero fails e = rw e
first_refuses (c ∷ cs) (suc n) fails e = rw (fails 0 (omega arith)) (first_refuses cs n (λ k l. fails (suc k) (omega arith)) e)

-- and where none holds, the list accepts
first_accepts : (cs : List Condition) → FailBelow (holds_at cs) (length cs) → first_refusal cs ≡ accepted
unfolding first_refusal
first_accepts [] fails = refl
first_accepts (c ∷ cs) fails = rw (fails 0 (omega arith)) (first_accepts cs (λ k l. fails (suc k) (omega arith)))

-- where the first n do not hold, the others count
first_left : (cs : List Condition) (n : ℕ) → FailBelow (holds_at cs) n → first_refusal cs ≡ first_refusal (drop n cs)
unfolding first_refusal
first_left cs zero fails = refl
first_left [] (suc n) fails = refl
first_left (c ∷ cs) (suc n) fails = rw (fails 0 (omega arith)) (first_left cs n (λ k l. fails (suc k) (omega arith)))

-- condition n is due: none before it holds, and the test t tells whether it does
pub record Due (cs : List Condition) (n : ℕ) (t : Bool) : Type 0 where
  pub earlier : FailBelow (holds_at cs) n
  pub test : t ≡ holds_at cs n

pub due_first : {cs : List Condition} {t : Bool} → t ≡ holds_at cs 0 → Due cs 0 t
due_first e = record { earlier = below_none _; test = e }

pub due_next : {cs : List Condition} {n : ℕ} {t u : Bool} → Due cs n t → t ≡ false → u ≡ holds_at cs (suc n) → Due cs (suc n) u
due_next {n = n} due fails e = record { earlier = rw (← add-one n) (below_more _ _ due.earlier (sym due.test ∙ fails)); test = e }

pub due_refuses : {cs : List Condition} {n : ℕ} {t : Bool} → Due cs n t → t ≡ true
    → first_refusal cs ≡ refused (condition_at cs n).number (condition_at cs n).place
due_refuses due holds = first_refuses _ _ due.earlier (sym due.test ∙ holds)

-- the last condition of the list
pub due_accepts : {cs : List Condition} {n : ℕ} {t : Bool} → length cs ≡ suc n → Due cs n t → t ≡ false → first_refusal cs ≡ accepted
due_accepts last due fails = first_accepts _ (rw last (due_next due fails refl).earlier)

-- conditions follow that are looked at in another way
pub due_leaves : {cs : List Condition} {n : ℕ} {t : Bool} → Due cs n t → t ≡ false → first_refusal cs ≡ first_refusal (drop (suc n) cs)
due_leaves due fails = first_left _ _ (due_next due fails refl).earlier

-- ---- after an acceptance
-- the condition of a list that refuses by a number; where there is none, one that does not hold
abbrev condition_of : List Condition → ℕ → Condition
condition_of [] number = none
condition_of (c ∷ cs) number = cond (eqb c.number number) c (condition_of cs number)

abbrev pub NoneHolds : List Condition → Type 0
NoneHolds cs = (number : ℕ) → (condition_of cs number).holds ≡ false

none_more : (c : Condition) (cs : List Condition) → c.holds ≡ false → NoneHolds cs → NoneHolds (c ∷ cs)
none_more c cs fails rest number = either (eqb c.number number) (condition_of cs number) (rest number)
  where
    either : (b : Bool) (d : Condition) → d.holds ≡ false → (cond b c d).holds ≡ false
    either true d later = fails
    either false d later = later

-- two lists, one after the other, and an answer whose number the first lacks: it has no condition that holds, and the answer is that of
-- the second. So it is with an acceptance.
pub none_holds : (cs ds : List Condition) {answer : Answer} → T (lacks answer.number cs) → first_refusal (cs ++ ds) ≡ answer
    → NoneHolds cs × (first_refusal ds ≡ answer)
unfolding first_refusal
none_holds [] ds t e = (λ number. refl, e)
none_holds (c ∷ cs) ds {answer} t e =
    by c.holds refl e (none_holds cs ds (and_right (not (eqb c.number answer.number)) (lacks answer.number cs) t))
  where
    by : (b : Bool) → c.holds ≡ b → cond b (refused c.number c.place) (first_refusal (cs ++ ds)) ≡ answer
        → (first_refusal (cs ++ ds) ≡ answer → NoneHolds cs × (first_refusal ds ≡ answer)) → NoneHolds (c ∷ cs) × (first_refusal ds ≡ answer)
    by true h e rest = absurd (other_number answer.number c cs t (ap (λ (a : Answer). a.number) e))
    by false h e rest = (none_more c cs h (rest e).0, (rest e).1)

-- lists that come to the same answer where no condition before them holds do so after these
pub first_same : (cs ds es : List Condition) → (NoneHolds cs → first_refusal ds ≡ first_refusal es) → first_refusal (cs ++ ds) ≡ first_refusal (cs ++ es)
unfolding first_refusal
first_same [] ds es same = same (λ number. refl)
first_same (c ∷ cs) ds es same = by c.holds refl (λ fails. first_same cs ds es (λ none. same (none_more c cs fails none)))
  where
    by : (b : Bool) → c.holds ≡ b → (c.holds ≡ false → first_refusal (cs ++ ds) ≡ first_refusal (cs ++ es))
        → cond b (refused c.number c.place) (first_refusal (cs ++ ds)) ≡ cond b (refused c.number c.place) (first_refusal (cs ++ es))
    by true h rest = refl
    by false h rest = rest h

-- where both together refuse nothing, the first does not
pub first_passed : (cs ds : List Condition) → T (all_numbered cs) → first_refusal (cs ++ ds) ≡ accepted → is_accepted (first_refusal cs) ≡ true
first_passed cs ds t e = by (is_accepted (first_refusal cs)) refl (sym (first_append cs ds t) ∙ e)
  where
    by : (b : Bool) → is_accepted (first_refusal cs) ≡ b → cond b (first_refusal ds) (first_refusal cs) ≡ accepted → is_accepted (first_refusal cs) ≡ true
    by true p q = p
    by false p q = ap is_accepted q

-- ---- a call's steps
-- each step answers for the conditions of its own, and the call hands its refusal on
pub step_refuses : (cs ds : List Condition) (number place : ℕ) → eqb number 0 ≡ false → refused number place ≡ first_refusal cs
    → refused number place ≡ first_refusal (cs ++ ds)
unfolding first_refusal
step_refuses [] ds number place numbered e = absurd (true≢false (ap is_accepted (sym e) ∙ numbered))
step_refuses (c ∷ cs) ds number place numbered e = by c.holds e (step_refuses cs ds number place numbered)
  where
    by : (b : Bool) → refused number place ≡ cond b (refused c.number c.place) (first_refusal cs)
        → (refused number place ≡ first_refusal cs → refused number place ≡ first_refusal (cs ++ ds))
        → refused number place ≡ cond b (refused c.number c.place) (first_refusal (cs ++ ds))
    by true e rest = e
    by false e rest = rest e

-- where it accepts, those of the next steps count
pub step_accepts : (cs ds : List Condition) → T (all_numbered cs) → accepted ≡ first_refusal cs
    → first_refusal ds ≡ first_refusal (cs ++ ds)
step_accepts cs ds t e = sym (first_append cs ds t ∙ ap (λ (a : Answer). cond (is_accepted a) (first_refusal ds) a) (sym e))
