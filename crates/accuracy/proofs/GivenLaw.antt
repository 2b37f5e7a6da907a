-- By `Encloses` for the first member as the starting chance, since the customer's amounts are the law's. A law of order 1 passes 1 and has
-- one term that can be wrong, so the curve's list comes to 2 or 3 just where 53 holds.
use mathlib.Core.Path.{◌≡◌, refl, sym, ◌∙◌, ap, subst}
use mathlib.Core.Bool.{Bool, true, false, true≢false, not, ◌||◌, cond}
use mathlib.Core.List.{List, [], ◌∷◌}
use Prim.Native.Nat.{ℕ, ◌≤◌}
use lib.Dec.{T, ltb}
use lib.IntN.{ℤ, nat_abs}
use Rattle.algebra.specs.Fraction.{Fraction, ◌≈◌}
use Rattle.algebra.specs.Smallest.{smallest}
use Rattle.algebra.specs.Table.{every}
use Rattle.algebra.proofs.Or.{or_yes, or_no, or_second}
use Rattle.algebra.proofs.Table.{and_left, and_right}
use Rattle.algebra.proofs.Value.{Within, within_value, of_within, value_eq}
use Rattle.model.specs.declared.Law.{Law}
use Rattle.model.specs.declared.Job.{Job}
use Rattle.model.specs.Answer.{Answer, Condition, accepted, first_refusal}
use Rattle.model.specs.Limits.{most_order, outside, beyond}
use Rattle.model.proofs.Answer.{by_first, first_none}
use Rattle.exact.specs.Amount.{exact_amount}
use Rattle.exact.specs.JobAmount.{frequency, severity}
use Rattle.exact.proofs.Thinned.{zero_weight_same_amounts}
use Rattle.published.specs.Call.{Made, turn, turned_law, wrong_law, law_of_line}
use Rattle.published.specs.Satisfies.{own_amount, SameAmounts}
use Rattle.published.proofs.Accepted.{line_accepted}
use Rattle.published.proofs.Satisfies.{own_amounts}
use Rattle.compound.specs.Lent.{Lent}
use Rattle.compound.specs.Call.{first_wrong_term, curve_answer}
use Rattle.accuracy.specs.GivenLaw.{EnclosesOwn, EnclosesPublished, law_refused, SameLimits, LawTaken}
use Rattle.accuracy.proofs.Accuracy.{encloses}

-- ---- the customer's own sequence
own : (made : Made) (Line : (ℕ → Fraction) → Type 0) → SameAmounts made Line → EnclosesOwn made Line
own made Line amounts a job weights lent ok e no_zeros p line (low, high) d x l =
    let table = severity weights d.total_pos in
    let same = subst (λ (law : Law). (h : 1 ≤ law.divisor) → own_amount p table x ≈ exact_amount (frequency law h) table (p 0) x)
    (sym e) (λ h. amounts a h p line table x) d.divisor_pos in
    of_within _ _ _ (subst (Within _ _) (value_eq (zero_weight_same_amounts job weights d no_zeros (p 0) x) ∙ sym (value_eq same))
    (within_value _ _ _ (encloses job weights lent ok d x l (p 0) low high)))

pub encloses_published : EnclosesPublished
encloses_published = (
  (λ α₀ α₁ β₀ β₁. own _ _ (own_amounts.0 α₀ α₁ β₀ β₁)),
  (λ b₀ b₁ a₀ a₁. own _ _ (own_amounts.1 b₀ b₁ a₀ a₁)),
)

-- ---- the curve's 1, 2 and 3
abbrev is_other : Condition → Bool
is_other c = outside 1 3 c.number

other : (t : Bool) → T t → false ≡ not t
other true h = refl
other false h = absurd h

module _ (D A B : ℤ) where
  divisor_wrong : Bool
  divisor_wrong = outside 1 1000 (nat_abs (turn D D))

  term_wrong : Bool
  term_wrong = beyond 1000 (turn D A) || beyond 1000 (turn D B)

  -- the terms past the first are 0
  term_is : ltb (first_wrong_term (turned_law D A B)) most_order ≡ term_wrong
  unfolding smallest term_wrong
  term_is = by (beyond 1000 (turn D A) || beyond 1000 (turn D B))
    where
      by : (t : Bool) → ltb (cond t 0 4) most_order ≡ t
      by true = refl
      by false = refl

  -- what an answer says of 53
  Says : Answer → Type 0
  Says answer = wrong_law D A B ≡ not (outside 1 3 answer.number)

  -- conditions of other numbers say that 53 does not hold
  later : (cs : List Condition) → T (every is_other cs) → wrong_law D A B ≡ false → Says (first_refusal cs)
  unfolding Says
  later [] t fails = rw first_none fails
  later (c ∷ cs) t fails = by_first Says c.holds c.number c.place cs
      (λ _. fails ∙ other (is_other c) (and_left (is_other c) (every is_other cs) t))
      (λ _. later cs (and_right (is_other c) (every is_other cs) t) fails)

  module _ (job : Job) (weights : List ℕ) (lent : Lent) (e : job.law ≡ turned_law D A B) where
    order_is : outside 1 most_order job.law.order ≡ false
    order_is = ap (λ (l : Law). outside 1 most_order l.order) e

    divisor_is : outside 1 1000 job.law.divisor ≡ divisor_wrong
    unfolding divisor_wrong
    divisor_is = ap (λ (l : Law). outside 1 1000 l.divisor) e

    first_term_is : ltb (first_wrong_term job.law) most_order ≡ term_wrong
    first_term_is = ap (λ (l : Law). ltb (first_wrong_term l) most_order) e ∙ term_is

    says : Says (curve_answer job weights lent)
    unfolding curve_answer Says divisor_wrong term_wrong
    says = by_first Says _ 1 0 _ (λ t. absurd (true≢false (sym t ∙ order_is)))
        (λ _. by_first Says _ 2 0 _ (λ t. let h = sym divisor_is ∙ t in sym (or_yes divisor_wrong term_wrong h) ∙ h)
        (λ f. by_first Says _ 3 _ _ (λ t. or_second divisor_wrong term_wrong (sym first_term_is ∙ t))
        (λ g. later _ tt (sym (or_no divisor_wrong term_wrong (sym divisor_is ∙ f)) ∙ (sym first_term_is ∙ g)))))

pub same_limits : SameLimits
unfolding Says
same_limits D A B job weights lent e = says D A B job weights lent e

taken : (constant D A B : ℤ) → (law_of_line constant D A B).answer ≡ accepted → (job : Job) (weights : List ℕ) (lent : Lent)
    → job.law ≡ (law_of_line constant D A B).law → law_refused job weights lent ≡ false
taken constant D A B a job weights lent e =
    let ok = line_accepted constant D A B a in sym (same_limits D A B job weights lent (e ∙ ok.law_made)) ∙ ok.within

pub law_taken : LawTaken
law_taken = ((λ α₀ α₁ β₀ β₁. taken α₀ α₁ β₁ _), (λ b₀ b₁ a₀ a₁. taken b₀ b₁ a₁ a₀))
