-- Searches: the smallest number that passes a test.
use Rattle.std.specs.Prelude.{◌≡◌, Bool, true, false, cond, ℕ, zero, suc, ◌≤◌, ◌<◌}

-- the smallest number below n that passes the test, or n where none does
unfoldable pub smallest : (ℕ → Bool) → ℕ → ℕ
smallest test zero = 0
smallest test (suc n) = cond (test 0) 0 (suc (smallest (λ k. test (suc k)) n))

-- each number below i fails the test
abbrev pub FailBelow : (ℕ → Bool) → ℕ → Type 0
FailBelow test i = (k : ℕ) → k < i → test k ≡ false

-- `smallest` is i where each number below i fails, and i is n or passes
abbrev pub SmallestIs : Type 0
SmallestIs = (test : ℕ → Bool) (n i : ℕ) → i ≤ n → FailBelow test i → (i < n → test i ≡ true) → smallest test n ≡ i

-- and n where each fails
abbrev pub SmallestNone : Type 0
SmallestNone = (test : ℕ → Bool) (n : ℕ) → FailBelow test n → smallest test n ≡ n

-- and conversely: what it finds is at most n, each number below it fails, and it passes unless it is n
abbrev pub SmallestFinds : Type 0
SmallestFinds = (test : ℕ → Bool) (n : ℕ)
    → (smallest test n ≤ n) × FailBelow test (smallest test n) × (smallest test n < n → test (smallest test n) ≡ true)

-- a property that can be decided, and that n has: there is a smallest number that has it
abbrev pub LeastExists : Type 1
LeastExists = (P : ℕ → Type 0) → ((k : ℕ) → Dec (P k)) → (n : ℕ) → P n → (i : ℕ) × (i ≤ n) × P i × ((k : ℕ) → k < i → ¬ P k)
