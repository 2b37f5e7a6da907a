-- The laws of `smallest`, and the smallest number that has a property, by induction on the number of places, by what is found at the first.
use mathlib.Core.Path.{◌≡◌, refl}
use mathlib.Core.Bool.{Bool, true, false, cond}
use Prim.Native.Nat.{ℕ, zero, suc, ◌+◌, ◌≤◌, ◌<◌, zero-le}
use native.Mathlib.Nat as NL
use native.Mathlib.Omega.{arith}
use borrow.Author.Count.{below_none, below_more}
use Rattle.algebra.specs.Smallest.{smallest, FailBelow, SmallestIs, SmallestNone, SmallestFinds, LeastExists}

pub smallest_is : SmallestIs
unfolding smallest
smallest_is test zero i le below here = omega arith
smallest_is test (suc n) zero le below here = rw (here (omega arith))
smallest_is test (suc n) (suc i) le below here = rw (
  below 0 (omega arith),
  smallest_is (λ k. test (suc k)) n i (omega arith) (λ k h. below (suc k) (omega arith)) (λ h. here (omega arith)),
)

pub smallest_none : SmallestNone
smallest_none test n fails = smallest_is test n n (NL.le_refl n) fails (λ h. absurd (NL.lt_irrefl n h))

-- a loop that looks for it below n and has come to i: each number below i fails
pub record Searched (test : ℕ → Bool) (n i : ℕ) : Type 0 where
  pub within : i ≤ n
  pub below : FailBelow test i

pub searched_none : {test : ℕ → Bool} {n : ℕ} → Searched test n 0
searched_none = record { within = zero-le; below = below_none _ }

pub searched_next : {test : ℕ → Bool} {n i : ℕ} → Searched test n i → i < n → test i ≡ false → Searched test n (i + 1)
searched_next s l e = record { within = omega arith; below = below_more _ _ s.below e }

pub searched_found : {test : ℕ → Bool} {n i : ℕ} → Searched test n i → test i ≡ true → smallest test n ≡ i
searched_found s e = smallest_is _ _ _ s.within s.below (λ _. e)

pub searched_all : {test : ℕ → Bool} {n i : ℕ} → Searched test n i → n ≤ i → smallest test n ≡ n
searched_all s l = smallest_none _ _ (λ k h. s.below k (omega arith))

pub smallest_finds : SmallestFinds
unfolding smallest
smallest_finds test zero = (NL.le_refl 0, (λ k h. absurd (NL.not-suc-le-zero h)), (λ h. absurd (NL.not-suc-le-zero h)))
smallest_finds test (suc n) = by (test 0) refl (smallest (λ k. test (suc k)) n) (smallest_finds (λ k. test (suc k)) n)
  where
    by : (b : Bool) → test 0 ≡ b → (s : ℕ) → (s ≤ n) × FailBelow (λ k. test (suc k)) s × (s < n → test (suc s) ≡ true)
        → (cond b 0 (suc s) ≤ suc n) × FailBelow test (cond b 0 (suc s)) × (cond b 0 (suc s) < suc n → test (cond b 0 (suc s)) ≡ true)
    by true e s ih = (omega arith, (λ k h. absurd (NL.not-suc-le-zero h)), (λ _. e))
    by false e s ih = (omega (arith, ih.0), fails, (λ h. ih.2 (omega arith)))
      where
        fails : (k : ℕ) → k < suc s → test k ≡ false
        fails zero h = e
        fails (suc k) h = ih.1 k (omega arith)

pub least_exists : LeastExists
least_exists P decide zero p = (0, NL.le_refl 0, p, λ k h. absurd (NL.not-suc-le-zero h))
least_exists P decide (suc n) p = by (decide 0) (least_exists (λ k. P (suc k)) (λ k. decide (suc k)) n p)
  where
    by : Dec (P 0) → (i : ℕ) × (i ≤ n) × P (suc i) × ((k : ℕ) → k < i → ¬ P (suc k))
        → (i : ℕ) × (i ≤ suc n) × P i × ((k : ℕ) → k < i → ¬ P k)
    by (yes q) later = (0, omega arith, q, λ k h. absurd (NL.not-suc-le-zero h))
    by (no f) (i, le, q, fails) = (suc i, omega arith, q, below)
      where
        below : (k : ℕ) → k < suc i → ¬ P k
        below zero h = f
        below (suc k) h = fails k (omega arith)
