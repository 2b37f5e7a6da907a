-- Tests that are joined by `&&`: two, and as many as there are numbers below n.
use mathlib.Core.Path.{◌≡◌, refl, sym, ap, ◌∙◌}
use mathlib.Core.Bool.{Bool, true, false, ◌&&◌, true≢false, and-eq-true_iff}
use mathlib.Core.Logic.{◌⊎◌, inl, inr}
use Prim.Native.Nat.{ℕ, zero, suc, ◌+◌, ◌<◌}
use native.Mathlib.Nat as NL
use native.Mathlib.Omega.{arith}
use Rattle.algebra.specs.Sum.{accumulate, all_of}

pub both : {p q : Bool} → (p && q) ≡ true → (p ≡ true) × (q ≡ true)
both {p} {q} = (and-eq-true_iff p q).0

-- the answer is that of the second where the first holds, and else that of the first
pub and_yes : (p q : Bool) → p ≡ true → q ≡ (p && q)
and_yes true q e = refl
and_yes false q e = absurd (true≢false (sym e))

pub and_no : (p q : Bool) → p ≡ false → p ≡ (p && q)
and_no true q e = absurd (true≢false e)
and_no false q e = refl

and_false : (p : Bool) → (p && false) ≡ false
and_false true = refl
and_false false = refl

-- each of the first n holds
pub record HoldBelow (f : ℕ → Bool) (n : ℕ) : Type 0 where
  pub each : (i : ℕ) → i < n → f i ≡ true

pub hold_none : {f : ℕ → Bool} → HoldBelow f 0
hold_none = record { each = λ i l. absurd (NL.not-suc-le-zero l) }

pub hold_next : {f : ℕ → Bool} {n : ℕ} → HoldBelow f n → f n ≡ true → HoldBelow f (n + 1)
hold_next {f} {n} h e = record { each = λ i l. by i (NL.eq-or-lt_of_le (omega arith)) }
  where
    by : (i : ℕ) → (i ≡ n) ⊎ (i < n) → f i ≡ true
    by i (inl p) = ap f p ∙ e
    by i (inr k) = h.each i k

-- where each holds, all do
pub all_hold : (n : ℕ) (f : ℕ → Bool) → ((i : ℕ) → i < n → f i ≡ true) → all_of n f ≡ true
unfolding accumulate
all_hold zero f h = refl
all_hold (suc n) f h = rw (all_hold n f (λ i l. h i (omega arith)), h n (NL.le_refl (suc n)))

-- where one does not, not all do
pub one_fails : (n : ℕ) (f : ℕ → Bool) (i : ℕ) → i < n → f i ≡ false → all_of n f ≡ false
unfolding accumulate
one_fails zero f i l e = absurd (NL.not-suc-le-zero l)
one_fails (suc n) f i l e = by (NL.eq-or-lt_of_le (NL.le_of_suc-le-suc l)) (λ k. one_fails n f i k e)
  where
    by : (i ≡ n) ⊎ (i < n) → (i < n → all_of n f ≡ false) → (all_of n f && f n) ≡ false
    by (inl p) earlier = ap (λ (t : Bool). all_of n f && t) (sym (ap f p) ∙ e) ∙ and_false (all_of n f)
    by (inr k) earlier = ap (λ (t : Bool). t && f n) (earlier k)

-- where all hold, each does
pub all_each : (n : ℕ) (f : ℕ → Bool) → all_of n f ≡ true → (i : ℕ) → i < n → f i ≡ true
all_each n f e i l = by (f i) refl
  where
    by : (t : Bool) → f i ≡ t → f i ≡ true
    by true p = p
    by false p = absurd (true≢false (sym e ∙ one_fails n f i l p))
