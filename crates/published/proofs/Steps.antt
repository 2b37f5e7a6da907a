-- The line of order 1 over the rational numbers, with a divisor that is a natural number: D n times member n is A n + B times the member
-- before. The multiples of a law's count coefficients have it (`law_steps`), and no other sequence does, since D n is not zero and may be
-- divided out (`steps_unique`).
use mathlib.Core.Path.{◌≡◌, sym, ◌∙◌, ap, ap₂}
use Prim.Native.Nat.{ℕ, zero, suc, ◌*◌, ◌-◌, ◌≤◌, min}
use native.Mathlib.Nat as NL
use native.Mathlib.Omega.{arith}
use lib.IntN.{ℤ, pos, ◌+ℤ◌, ◌*ℤ◌}
use Rattle.algebra.specs.Semiring.{nat}
use Rattle.algebra.specs.Ring.{int}
use Rattle.algebra.specs.Sum.{sum}
use Rattle.algebra.proofs.Semiring.{ring, nat_mul, zero_add, mul_left_comm}
use Rattle.algebra.proofs.Ring.{int_pos, int_add, int_mul}
use Rattle.algebra.proofs.Sum.{sum_zero, sum_suc}
use Rattle.algebra.proofs.Order.{cancel_eq}
use Rattle.algebra.proofs.Value.{order, ℚ, value, value_over}
use Rattle.exact.specs.Frequency.{Frequency, a, b, count_coefficient}
use Rattle.exact.specs.JobAmount.{frequency}
use Rattle.exact.proofs.Frequency.{count_class}
use Rattle.published.specs.Call.{law_of_term}
open ℚ use {carrier as Q, 𝟘, 𝟙, ◌⊹◌, ◌·◌}

infixl 6 ◌⊹◌
infixl 7 ◌·◌
abbrev pub Steps : ℕ → ℤ → ℤ → (ℕ → Q) → Type 0
Steps D A B v = (n : ℕ) → nat ℚ (D * suc n) · v (suc n) ≡ int order.ring (A *ℤ pos (suc n) +ℤ B) · v n

pub before : (n : ℕ) → suc n - 1 ≡ n
before n = omega arith

-- the same sequence, written otherwise
pub steps_cong : (D : ℕ) (A B : ℤ) {v w : ℕ → Q} → ((n : ℕ) → v n ≡ w n) → Steps D A B v → Steps D A B w
steps_cong D A B e s n = ap (λ (u : Q). nat ℚ (D * suc n) · u) (sym (e (suc n))) ∙ s n
    ∙ ap (λ (u : Q). int order.ring (A *ℤ pos (suc n) +ℤ B) · u) (e n)

-- ---- the count coefficients
module _ (D : ℕ) (A B : ℤ) (h : 1 ≤ D) where
  abbrev law : Frequency
  law = frequency (law_of_term 1 D A B) h

  -- a and b, times D
  scaled_a : nat ℚ D · value (a law 1) ≡ int order.ring A
  unfolding a
  scaled_a = value_over A D h

  scaled_b : nat ℚ D · value (b law 1) ≡ int order.ring B
  unfolding b
  scaled_b = value_over B D h

  one_term : (f : ℕ → Q) (n : ℕ) → sum ℚ (min 1 (suc n)) f ≡ f 0
  one_term f n = ap (λ (m : ℕ). sum ℚ m f) one ∙ sum_suc ℚ 0 f ∙ ap (λ (v : Q). v ⊹ f 0) (sum_zero ℚ f) ∙ zero_add ℚ (f 0)
    where
      one : min 1 (suc n) ≡ 1
      one = omega arith

  pub law_steps : (p : Q) → Steps D A B (λ n. p · value (count_coefficient law n))
  law_steps p n =
      ap (λ (v : Q). v · member (suc n)) (nat_mul ℚ D (suc n)) ∙ ℚ.mul_assoc (nat ℚ D) (nat ℚ (suc n)) (member (suc n))
      ∙ ap (λ (v : Q). nat ℚ D · v) (count_class law p n ∙ one_term _ n ∙ ap (λ (m : ℕ). sides · member m) (before n))
      ∙ spread (nat ℚ D) (nat ℚ (suc n)) (value (a law 1)) (value (b law 1)) (member n)
      ∙ ap (λ (v : Q). v · member n) (ap₂ (λ (u v : Q). u · nat ℚ (suc n) ⊹ v) scaled_a scaled_b ∙ sym factor)
    where
      member : ℕ → Q
      member m = p · value (count_coefficient law m)

      sides : Q
      sides = nat ℚ (suc n) · value (a law 1) ⊹ value (b law 1)

      spread : (d m u v c : Q) → d · ((m · u ⊹ v) · c) ≡ (d · u · m ⊹ d · v) · c
      spread d m u v c = simp ring

      factor : int order.ring (A *ℤ pos (suc n) +ℤ B) ≡ int order.ring A · nat ℚ (suc n) ⊹ int order.ring B
      factor = int_add order.ring (A *ℤ pos (suc n)) B
          ∙ ap (λ (v : Q). v ⊹ int order.ring B) (int_mul order.ring A (pos (suc n))
          ∙ ap (λ (v : Q). int order.ring A · v) (int_pos order.ring (suc n)))

-- ---- no other sequence
pub steps_unique : (D : ℕ) (A B : ℤ) → 1 ≤ D → (v w : ℕ → Q) → Steps D A B v → Steps D A B w → w 0 ≡ 𝟙 → (n : ℕ) → v n ≡ v 0 · w n
steps_unique D A B h v w sv sw one zero = sym (ap (λ (u : Q). v 0 · u) one ∙ ℚ.mul_one (v 0))
steps_unique D A B h v w sv sw one (suc n) = cancel_eq order (D * suc n) (NL.mul-pos h (NL.zero-lt-suc n))
    (sv n ∙ ap (λ (u : Q). factor · u) (steps_unique D A B h v w sv sw one n) ∙ mul_left_comm ℚ factor (v 0) (w n)
    ∙ ap (λ (u : Q). v 0 · u) (sym (sw n)) ∙ mul_left_comm ℚ (v 0) (nat ℚ (D * suc n)) (w (suc n)))
  where
    factor : Q
    factor = int order.ring (A *ℤ pos (suc n) +ℤ B)
