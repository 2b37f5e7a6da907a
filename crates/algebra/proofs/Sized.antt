-- Sizes in an ordered ring: u lies from -k to k. Sequences that shrink at least as 1/n, and a recursion that makes them: what stays of one
-- number in the next is a part of it below 1, so from some n on the part that goes outweighs what 1/n loses in a step.
use mathlib.Core.Path.{◌≡◌, refl, sym, ◌∙◌, ap, subst, subst₂}
use mathlib.Core.List.{[], ◌∷◌}
use Prim.Native.Nat.{ℕ, zero, suc, ◌+◌, ◌*◌, ◌-◌, ◌≤◌, zero-le}
use native.Mathlib.Decide.{dec_le}
use native.Mathlib.Nat as NL
use native.Mathlib.Omega.{arith}
use lib.IntN.{ℤ, pos, negsuc, nat_abs}
use Rattle.algebra.specs.Semiring.{Semiring, nat}
use Rattle.algebra.specs.Ring.{Ring, int}
use Rattle.algebra.specs.Order.{OrderedRing}
use Rattle.algebra.specs.Solver.{var, unit, ◌:+◌, ◌:*◌, :-◌}
use Rattle.algebra.proofs.Semiring.{mul_left_comm, ring, nat_one, nat_suc, nat_add, nat_mul}
use Rattle.algebra.proofs.Ring.{neg_add, neg_neg, neg_mul, mul_neg, neg_zero}
use Rattle.algebra.proofs.Order.{rewritten, add_mono, difference, of_difference, neg_mono, nat_nonneg, nat_mono, cancel_le}
use Rattle.algebra.proofs.Solver.{solve}

-- n = 2 (d + 1) + i and K = 2 (d + 1) m + j
room : (d n K m : ℕ) → 2 * suc d ≤ n → 2 * suc d * m ≤ K → suc (suc n) * (d * K + suc d * m) ≤ suc d * suc n * K
room d n K m l k = subst₂ (λ (n K : ℕ). suc (suc n) * (d * K + suc d * m) ≤ suc d * suc n * K) (NL.sub-add_cancel l) (NL.sub-add_cancel k)
    (apart (n - 2 * suc d) (K - 2 * suc d * m))
  where
    apart : (i j : ℕ) → suc (suc (i + 2 * suc d)) * (d * (j + 2 * suc d * m) + suc d * m)
        ≤ suc d * suc (i + 2 * suc d) * (j + 2 * suc d * m)
    apart i j = omega arith

module _ (O : OrderedRing) where
  open O use {◌⊑◌}
  open O.ring use {neg}
  open O.ring.semiring use {carrier as A, 𝟘, 𝟙, ◌⊹◌, ◌·◌}

  infix 4 ◌⊑◌
  infixl 6 ◌⊹◌
  infixl 7 ◌·◌
  abbrev R : Ring
  R = O.ring

  abbrev S : Semiring
  S = O.ring.semiring

  pub record Sized (u k : A) : Type 0 where
    pub most : u ⊑ k
    pub least : neg u ⊑ k

  pub sized_mono : {u k l : A} → Sized u k → k ⊑ l → Sized u l
  sized_mono s h = record { most = O.le_trans s.most h; least = O.le_trans s.least h }

  sized_zero : (k : ℕ) → Sized 𝟘 (nat S k)
  sized_zero k = record { most = nat_nonneg O k; least = rewritten O (nat_nonneg O k) (sym (neg_zero R)) refl }

  sized_neg : {u k : A} → Sized u k → Sized (neg u) k
  sized_neg {u} s = record { most = s.least; least = rewritten O s.most (sym (neg_neg R u)) refl }

  pub sized_add : {u v k l : A} → Sized u k → Sized v l → Sized (u ⊹ v) (k ⊹ l)
  sized_add {u} {v} s t = record {
    most = add_mono O s.most t.most;
    least = rewritten O (add_mono O s.least t.least) (sym (neg_add R u v)) refl;
  }

  -- (k - u)(l + v) and (k + u)(l - v) are zero or more, and so is their sum, 2 (k l - u v)
  product_most : {u v k l : A} → Sized u k → Sized v l → u · v ⊑ k · l
  product_most {u} {v} {k} {l} s t = cancel_le O 2 (omega arith) (of_difference O (rewritten O (add_mono O
      (O.mul_nonneg (difference O s.most) (difference O t.least))
      (O.mul_nonneg (difference O s.least) (difference O t.most)))
      (S.add_zero 𝟘)
      (solve R (u ∷ v ∷ k ∷ l ∷ [])
      ((var 2 :+ :- var 0) :* (var 3 :+ :- :- var 1) :+ (var 2 :+ :- :- var 0) :* (var 3 :+ :- var 1))
      ((unit :+ unit) :* (var 2 :* var 3) :+ :- ((unit :+ unit) :* (var 0 :* var 1))) tt
      ∙ ap (λ (two : A). two · (k · l) ⊹ neg (two · (u · v))) (sym (nat_suc S 1 ∙ ap (λ (one : A). one ⊹ 𝟙) (nat_one S))))))

  pub sized_mul : {u v k l : A} → Sized u k → Sized v l → Sized (u · v) (k · l)
  sized_mul {u} {v} s t = record {
    most = product_most s t;
    least = rewritten O (product_most (sized_neg s) t) (neg_mul R u v) refl;
  }

  pub sized_nat : (n : ℕ) → Sized (nat S n) (nat S n)
  sized_nat n = record {
    most = O.le_refl (nat S n);
    least = O.le_trans (rewritten O (neg_mono O (nat_nonneg O n)) refl (neg_zero R)) (nat_nonneg O n);
  }

  pub sized_int : (z : ℤ) → Sized (int R z) (nat S (nat_abs z))
  unfolding int
  sized_int (pos n) = sized_nat n
  sized_int (negsuc n) = sized_neg (sized_nat (suc n))

  -- a factor of at least 1 cancels
  pub sized_over : (n : ℕ) {u k : A} → 1 ≤ n → Sized (nat S n · u) (nat S n · k) → Sized u k
  sized_over n {u} l s = record {
    most = cancel_le O n l s.most;
    least = cancel_le O n l (rewritten O s.least (sym (mul_neg R (nat S n) u)) refl);
  }

  -- ---- sequences that shrink at least as 1/n
  -- (n + 1) u(n) is at most a whole number in size
  pub record Shrinks (u : ℕ → A) : Type 0 where
    pub most : ℕ
    pub sized : (n : ℕ) → Sized (nat S (suc n) · u n) (nat S most)

  pub shrinks_same : (u v : ℕ → A) → ((n : ℕ) → u n ≡ v n) → Shrinks u → Shrinks v
  shrinks_same u v e s = record {
    most = s.most;
    sized = λ n. subst (λ (w : A). Sized (nat S (suc n) · w) (nat S s.most)) (e n) (s.sized n);
  }

  sized_none : (k n : ℕ) {u : A} → u ≡ 𝟘 → Sized (nat S (suc n) · u) (nat S k)
  sized_none k n e = subst (λ (w : A). Sized w (nat S k)) (sym (ap (λ (v : A). nat S (suc n) · v) e ∙ S.mul_zero (nat S (suc n))))
      (sized_zero k)

  pub shrinks_zero : Shrinks (λ n. 𝟘)
  shrinks_zero = record { most = 0; sized = λ n. sized_none 0 n refl }

  pub shrinks_plus : (u v : ℕ → A) → Shrinks u → Shrinks v → Shrinks (λ n. u n ⊹ v n)
  shrinks_plus u v s t = record {
    most = s.most + t.most;
    sized = λ n. subst₂ Sized (sym (S.mul_add (nat S (suc n)) (u n) (v n))) (sym (nat_add S s.most t.most))
        (sized_add (s.sized n) (t.sized n));
  }

  pub shrinks_times : (c : A) (k : ℕ) (u : ℕ → A) → Sized c (nat S k) → Shrinks u → Shrinks (λ n. c · u n)
  shrinks_times c k u h s = record {
    most = k * s.most;
    sized = λ n. subst₂ Sized (mul_left_comm S c (nat S (suc n)) (u n)) (sym (nat_mul S k s.most)) (sized_mul h (s.sized n));
  }

  -- one place further
  pub shrinks_shift : (u : ℕ → A) → Shrinks u → Shrinks (λ n. u (suc n))
  shrinks_shift u s = record {
    most = s.most;
    sized = λ n. sized_over (suc (suc n)) (NL.zero-lt-suc (suc n))
        (subst₂ Sized (mul_left_comm S (nat S (suc n)) (nat S (suc (suc n))) (u (suc n))) refl
        (sized_mono (sized_mul (sized_nat (suc n)) (s.sized (suc n)))
        (rewritten O (nat_mono O {n = suc (suc n) * s.most} (NL.mul-le-mul_right s.most (omega arith)))
        (nat_mul S (suc n) s.most) (nat_mul S (suc (suc n)) s.most))));
  }

  -- where each number is at most a whole number in size, the first ones are at most one all together, and only later ones matter
  module _ (u : ℕ → A) (size : ℕ → ℕ) (sized : (n : ℕ) → Sized (u n) (nat S (size n))) where
    pub shrinks_from : (from most : ℕ) → ((n : ℕ) → from ≤ n → Sized (nat S (suc n) · u n) (nat S most)) → Shrinks u
    shrinks_from zero most h = record { most = most; sized = λ n. h n zero-le }
    shrinks_from (suc from) most h = shrinks_from from (most + suc from * size from) (λ n l. by n l (dec_le (suc from) n))
      where
        here : (n : ℕ) → from ≤ n → ¬ (suc from ≤ n) → from ≡ n
        here n l f = omega arith

        by : (n : ℕ) → from ≤ n → Dec (suc from ≤ n) → Sized (nat S (suc n) · u n) (nat S (most + suc from * size from))
        by n l (yes k) = sized_mono (h n k) (nat_mono O (NL.le-add_right most (suc from * size from)))
        by n l (no f) = subst (λ (m : ℕ). Sized (nat S (suc m) · u m) (nat S (most + suc from * size from))) (here n l f)
            (sized_mono (sized_mul (sized_nat (suc from)) (sized from))
            (rewritten O (nat_mono O (NL.le-add_left (suc from * size from) most)) (nat_mul S (suc from) (size from)) refl))

    -- zero from some n on
    pub shrinks_end : (from : ℕ) → ((n : ℕ) → from ≤ n → u n ≡ 𝟘) → Shrinks u
    shrinks_end from e = shrinks_from from 0 (λ n l. sized_none 0 n (e n l))

  -- s(n + 1) is ρ s(n) and something that shrinks, with ρ at most d/(d + 1) in size: then (n + 1) s(n) stays below K, where that is
  -- at least 2 (d + 1) times the bound of what is added
  module _ (s u ρ : ℕ → A) (d n₀ : ℕ) (next : (n : ℕ) → n₀ ≤ n → s (suc n) ≡ ρ n · s n ⊹ u n)
      (ratio : (n : ℕ) → n₀ ≤ n → Sized (nat S (suc d) · ρ n) (nat S d)) (added : Shrinks u)
      (size : ℕ → ℕ) (sized : (n : ℕ) → Sized (s n) (nat S (size n))) where
    from : ℕ
    from = n₀ + 2 * suc d

    bound : ℕ
    bound = suc from * size from + 2 * suc d * added.most

    first : Sized (nat S (suc from) · s from) (nat S bound)
    unfolding from bound
    first = sized_mono (sized_mul (sized_nat (suc from)) (sized from))
        (rewritten O (nat_mono O {n = bound} (NL.le-add_right (suc from * size from) (2 * suc d * added.most)))
        (nat_mul S (suc from) (size from)) refl)

    step : (n : ℕ) → from ≤ n → Sized (nat S (suc n) · s n) (nat S bound) → Sized (nat S (suc (suc n)) · s (suc n)) (nat S bound)
    unfolding from bound
    step n l h = sized_over (suc d * suc n) (NL.mul-pos (NL.zero-lt-suc d) (NL.zero-lt-suc n)) (subst₂ Sized
        (ap (λ (v : A). nat S (suc (suc n)) · v)
        (joined (nat S (suc d)) (ρ n) (nat S (suc n)) (s n) (u n)
        ∙ ap (λ (v : A). nat S (suc d) · nat S (suc n) · v) (sym (next n (omega arith))))
        ∙ mul_left_comm S (nat S (suc (suc n))) (nat S (suc d) · nat S (suc n)) (s (suc n))
        ∙ ap (λ (v : A). v · (nat S (suc (suc n)) · s (suc n))) (sym (nat_mul S (suc d) (suc n))))
        refl
        (sized_mono (sized_mul (sized_nat (suc (suc n))) (sized_add (sized_mul (ratio n (omega arith)) h)
        (sized_mul (sized_nat (suc d)) (added.sized n))))
        (rewritten O (nat_mono O (room d n bound added.most (omega arith) (omega arith))) (simp (nat_mul, nat_add))
        (nat_mul S (suc d * suc n) bound))))
      where
        joined : (d ρ n s u : A) → d · ρ · (n · s) ⊹ d · (n · u) ≡ d · n · (ρ · s ⊹ u)
        joined d ρ n s u = simp ring

    stays : (k : ℕ) → Sized (nat S (suc (k + from)) · s (k + from)) (nat S bound)
    stays zero = rw NL.zero-add first
    stays (suc k) = rw NL.suc-add (step (k + from) (NL.le-add_left from k) (stays k))

    pub shrinks_next : Shrinks s
    shrinks_next = shrinks_from s size sized from bound
        (λ n l. subst (λ (m : ℕ). Sized (nat S (suc m) · s m) (nat S bound)) (NL.sub-add_cancel l) (stays (n - from)))
