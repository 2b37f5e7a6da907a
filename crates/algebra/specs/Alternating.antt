-- Alternating sums a_0 - a_1 + a_2 - .. over a ring, and what they obey.
use Rattle.std.specs.Prelude.{◌≡◌, Bool, true, not, cond, ℕ, zero, suc, ◌+◌, ◌≤◌, ◌<◌}
use Rattle.algebra.specs.Semiring.{nat}
use Rattle.algebra.specs.Ring.{Ring, Number}
use Rattle.algebra.specs.Order.{OrderedRing}
use Rattle.algebra.specs.Sum.{sum}

abbrev pub is_even : ℕ → Bool
is_even zero = true
is_even (suc j) = not (is_even j)

-- the number x with the sign of place j
abbrev pub signed_at : (R : Ring) → ℕ → Number R → Number R
signed_at R j x = cond (is_even j) x (R.neg x)

-- a 0 - a 1 + .. with n numbers
unfoldable pub alternating : (R : Ring) → ℕ → (ℕ → Number R) → Number R
alternating R n a = sum R.semiring n (λ j. signed_at R j (a j))

module _ (R : Ring) where
  open R use {neg}
  open R.semiring use {carrier as A, ◌⊹◌}

  infixl 6 ◌⊹◌
  -- the first number less the alternating sum of the others
  abbrev pub AlternatingSuc : Type 0
  AlternatingSuc = (n : ℕ) (a : ℕ → A) → alternating R (suc n) a ≡ a 0 ⊹ neg (alternating R n (λ i. a (suc i)))

  -- the first m numbers, and the others
  abbrev pub AlternatingAdd : Type 0
  AlternatingAdd = (m n : ℕ) (a : ℕ → A)
      → alternating R (m + n) a ≡ alternating R m a ⊹ signed_at R m (alternating R n (λ i. a (m + i)))

module _ (O : OrderedRing) where
  open O use {◌⊑◌}
  open O.ring use {neg}
  open O.ring.semiring use {carrier as A, 𝟘, ◌⊹◌, ◌·◌}

  infix 4 ◌⊑◌
  infixl 6 ◌⊹◌
  infixl 7 ◌·◌
  -- n times e
  abbrev pub slack : ℕ → A → A
  slack n e = nat O.ring.semiring n · e

  -- where no number is below zero, and none larger than the one before it by more than e, an alternating sum lies from zero to its first
  -- number, but for an e for each number after the first
  abbrev pub AlternatingBounds : Type 0
  AlternatingBounds = (e : A) → 𝟘 ⊑ e → (n : ℕ) (a : ℕ → A) → ((i : ℕ) → i ≤ n → 𝟘 ⊑ a i) → ((i : ℕ) → i < n → a (suc i) ⊑ a i ⊹ e)
      → (neg (slack n e) ⊑ alternating O.ring (suc n) a) × (alternating O.ring (suc n) a ⊑ a 0 ⊹ slack n e)
