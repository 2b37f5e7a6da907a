-- Sundt's recursion over a commutative semiring, for every order k at once. Both sides come to one double sum over the number of claims
-- (`middle`): the left by sharing x among the claims (`weighed_power`), the right by moving term i up by i claims (`delay`).
use mathlib.Core.Path.{◌≡◌, refl, sym, ◌∙◌, ap, ap₂}
use Prim.Native.Nat.{ℕ, zero, suc, ◌-◌, ◌<◌, ◌≤◌, min, ◌+◌}
use native.Mathlib.Nat as NL
use native.Mathlib.Omega.{arith}
use Rattle.algebra.specs.Semiring.{Semiring, nat}
use Rattle.algebra.specs.Sum.{sum}
use Rattle.algebra.proofs.Semiring.{ring, ring_units, mul_left_comm, zero_add, zero_mul, one_mul}
use Rattle.algebra.proofs.Sum.{sum_cong, sum_add, sum_scale, sum_scale_right, sum_exchange, sum_shift, sum_extend, sum_cut}
use Rattle.exact.proofs.Convolution.{convolve, power, power_suc, power_vanishes, weighed, weighed_none, weighed_power}
use Rattle.exact.proofs.Convolution.{weighed_first, weighed_first_vanishes, convolve_right, convolve_left, convolve_scale_left}
use Rattle.exact.proofs.Convolution.{convolve_vanishes, convolve_unit, convolve_regroup, convolve_mixed}

module _ (R : Semiring) where
  open R use {carrier as A, 𝟘, 𝟙, ◌⊹◌, ◌·◌}

  infixl 6 ◌⊹◌
  infixl 7 ◌·◌
  -- ---- rows
  module _ (f P : ℕ → A) where
    -- row j at x: the sum over n from 0 to x of P n times the (n + j)-fold convolution at x
    unfoldable pub row : ℕ → ℕ → A
    row j x = sum R (suc x) (λ n. P n · power R f (n + j) x)

    -- more terms add nothing
    row_longer : (d j x : ℕ) → sum R (d + suc x) (λ n. P n · power R f (n + j) x) ≡ row j x
    unfolding row
    row_longer d j x = sum_extend R (suc x) d (λ n. P n · power R f (n + j) x)
        (λ n l. ap (λ (v : A). P n · v) (power_vanishes R f (n + j) x (omega arith)) ∙ R.mul_zero (P n))

    row_convolve : (g : ℕ → A) (j x : ℕ) → convolve R g (row j) x ≡ sum R (suc x) (λ n. P n · convolve R g (power R f (n + j)) x)
    unfolding convolve
    row_convolve g j x =
        sum_cong R x (λ y l. ap (λ (v : A). g (suc y) · v) (longer y l)
        ∙ sum_scale R (suc x) (g (suc y)) (λ n. P n · power R f (n + j) (x - suc y)))
        ∙ sum_exchange R x (suc x) (λ y n. g (suc y) · (P n · power R f (n + j) (x - suc y)))
        ∙ sum_cong R (suc x) (λ n l. sum_cong R x (λ y m. mul_left_comm R (g (suc y)) (P n) (power R f (n + j) (x - suc y)))
        ∙ sym (sum_scale R x (P n) (λ y. g (suc y) · power R f (n + j) (x - suc y))))
      where
        parts : (y : ℕ) → y < x → suc y + suc (x - suc y) ≡ suc x
        parts y l = omega arith

        longer : (y : ℕ) → y < x → row j (x - suc y) ≡ sum R (suc x) (λ n. P n · power R f (n + j) (x - suc y))
        longer y l = sym (row_longer (suc y) j (x - suc y)) ∙ ap (λ (k : ℕ). sum R k (λ n. P n · power R f (n + j) (x - suc y))) (parts y l)

    -- a further row is the row before it, convolved with f
    pub row_next : (j x : ℕ) → row (suc j) x ≡ convolve R f (row j) x
    unfolding row
    row_next j x = sym (row_convolve f j x ∙ sum_cong R (suc x) (λ n l. ap (λ (v : A). P n · v) (next n)))
      where
        next : (n : ℕ) → convolve R f (power R f (n + j)) x ≡ power R f (n + suc j) x
        next n = sym (power_suc R f (n + j) x) ∙ ap (λ (m : ℕ). power R f m x) (sym (NL.add-suc n j))

    -- g with the j-fold convolution, with row 0, is g with row j
    row_power : (g : ℕ → A) (j x : ℕ) → convolve R (convolve R g (power R f j)) (row 0) x ≡ convolve R g (row j) x
    unfolding power
    row_power g zero x =
        convolve_regroup R g (power R f 0) (row 0) x
        ∙ ap₂ ◌⊹◌
        (convolve_vanishes R g (convolve R (power R f 0) (row 0)) x (λ z l. convolve_unit R f (row 0) z))
        (one_mul R (convolve R g (row 0) x))
        ∙ zero_add R (convolve R g (row 0) x)
    row_power g (suc j) x =
        convolve_regroup R g (power R f (suc j)) (row 0) x
        ∙ ap₂ ◌⊹◌
        (convolve_right R g x (λ z l. convolve_left R (row 0) z (power_suc R f j) ∙ row_power f j z ∙ sym (row_next j z)))
        (ap (λ (v : A). v · convolve R g (row 0) x) (power_vanishes R f (suc j) 0 (omega arith)) ∙ zero_mul R (convolve R g (row 0) x))
        ∙ R.add_zero (convolve R g (row (suc j)) x)

  -- ---- moving a sequence
  -- g from place i on, and zero before it
  delay : ℕ → (ℕ → A) → ℕ → A
  delay zero g m = g m
  delay (suc i) g zero = 𝟘
  delay (suc i) g (suc m) = delay i g m

  delay_sum : (i n : ℕ) (g h : ℕ → A) → sum R (i + n) (λ m. delay i g m · h m) ≡ sum R n (λ l. g l · h (l + i))
  unfolding delay
  delay_sum zero n g h = simp (NL.zero-add, NL.add-zero)
  delay_sum (suc i) n g h =
      ap (λ (k : ℕ). sum R k (λ m. delay (suc i) g m · h m)) (NL.suc-add i n)
      ∙ sum_shift R (i + n) (λ m. delay (suc i) g m · h m)
      ∙ ap₂ ◌⊹◌ (zero_mul R (h 0)) (delay_sum i n g (λ m. h (suc m)))
      ∙ zero_add R _ ∙ simp NL.add-suc

  delay_before : (i m : ℕ) (g : ℕ → A) → m < i → delay i g m ≡ 𝟘
  unfolding delay
  delay_before zero m g l = absurd (NL.not-suc-le-zero l)
  delay_before (suc i) zero g l = refl
  delay_before (suc i) (suc m) g l = delay_before i m g (omega arith)

  delay_after : (i m : ℕ) (g : ℕ → A) → i ≤ m → delay i g m ≡ g (m - i)
  unfolding delay
  delay_after zero m g l = ap g (omega arith)
  delay_after (suc i) zero g l = absurd (NL.not-suc-le-zero l)
  delay_after (suc i) (suc m) g l = delay_after i m g (omega arith) ∙ ap g (omega arith)

  -- of the first k delays only those up to m count
  delay_min : (k m : ℕ) (g h : ℕ → A) → sum R k (λ i. delay i g m · h i) ≡ sum R (min k (suc m)) (λ i. g (m - i) · h i)
  delay_min k m g h =
      sum_cut R k (suc m) (λ i. delay i g m · h i) (λ i l. ap (λ (v : A). v · h i) (delay_before i m g l) ∙ zero_mul R (h i))
      ∙ sum_cong R (min k (suc m)) (λ i l. ap (λ (v : A). v · h i) (delay_after i m g (omega arith)))

  -- ---- the recursion
  -- Sundt's class of order k: (1) of document 002, times n
  abbrev pub SundtClass : (k : ℕ) (a b P : ℕ → A) → Type 0
  SundtClass k a b P = (n : ℕ) → nat R (suc n) · P (suc n)
      ≡ sum R (min k (suc n)) (λ i. (nat R (suc n) · a (suc i) ⊹ b (suc i)) · P (suc n - suc i))

  module _ (f : ℕ → A) (k : ℕ) (a b P : ℕ → A) (law : SundtClass k a b P) where
    -- both sides come to this
    middle : ℕ → A
    middle x = sum R (suc x) (λ m. P (suc m) · (nat R (suc m) · weighed_first R f m x))

    left : (x : ℕ) → nat R x · row f P 0 x ≡ middle x
    unfolding middle
    left x =
        ap (λ (v : A). nat R x · v) (sym (row_longer f P 1 0 x) ∙ ap (λ (n : ℕ). sum R n (λ n. P n · power R f (n + 0) x)) two
        ∙ sum_shift R (suc x) (λ n. P n · power R f (n + 0) x))
        ∙ R.mul_add (nat R x) (P 0 · power R f (0 + 0) x) (sum R (suc x) (λ n. P (suc n) · power R f (suc n + 0) x))
        ∙ ap₂ ◌⊹◌ (mul_left_comm R (nat R x) (P 0) (power R f 0 x) ∙ ap (λ (v : A). P 0 · v) (weighed_none R f x) ∙ R.mul_zero (P 0))
        (sum_scale R (suc x) (nat R x) (λ n. P (suc n) · power R f (suc n + 0) x)
        ∙ sum_cong R (suc x) (λ m l. mul_left_comm R (nat R x) (P (suc m)) (power R f (suc m + 0) x)
        ∙ ap (λ (v : A). P (suc m) · v) (ap (λ (n : ℕ). nat R x · power R f n x) (NL.add-zero (suc m)) ∙ weighed_power R f m x)))
        ∙ zero_add R (sum R (suc x) (λ m. P (suc m) · (nat R (suc m) · weighed_first R f m x)))
      where
        two : 1 + suc x ≡ suc (suc x)
        two = omega arith

    -- the i-th factor of (1) times n, at n = m + 1, and what it brings with m further claims
    count_factor : ℕ → ℕ → A
    count_factor i m = nat R (suc m) · a (suc i) ⊹ b (suc i)

    term : ℕ → ℕ → ℕ → A
    term x i m = count_factor i m · weighed_first R f m x

    -- what term i of the law brings: x a_i (f with row i) and b_i (weighed f with row i), rows and terms counted from 0
    share : ℕ → ℕ → A
    share x i = nat R x · a (suc i) · convolve R f (row f P i) x ⊹ b (suc i) · convolve R (weighed R f) (row f P i) x

    share_delayed : (x i : ℕ) → share x i ≡ sum R (suc x) (λ m. delay i P m · term x i m)
    unfolding share term count_factor weighed_first
    share_delayed x i =
        ap₂ ◌⊹◌
        (ap (λ (v : A). nat R x · a (suc i) · v) (row_convolve f P f i x) ∙ sum_scale R (suc x) (nat R x · a (suc i)) plain)
        (ap (λ (v : A). b (suc i) · v) (row_convolve f P (weighed R f) i x) ∙ sum_scale R (suc x) (b (suc i)) heavy)
        ∙ sym (sum_add R (suc x) (λ n. nat R x · a (suc i) · plain n) (λ n. b (suc i) · heavy n))
        ∙ sum_cong R (suc x) (λ n l. join n)
        ∙ sym (delay_sum i (suc x) P (term x i))
        ∙ sum_extend R (suc x) i (λ m. delay i P m · term x i m) none
      where
        plain : ℕ → A
        plain n = P n · convolve R f (power R f (n + i)) x

        heavy : ℕ → A
        heavy n = P n · weighed_first R f (n + i) x

        flat : (n a p w : A) → n · a · (p · w) ≡ a · (p · (n · w))
        flat n a p w = simp ring

        close : (a b p n s : A) → a · (p · (n · s)) ⊹ b · (p · s) ≡ p · ((n · a ⊹ b) · s)
        close a b p n s = simp ring

        shared : (n : ℕ) → nat R x · convolve R f (power R f (n + i)) x ≡ nat R (suc (n + i)) · weighed_first R f (n + i) x
        shared n = ap (λ (v : A). nat R x · v) (sym (power_suc R f (n + i) x)) ∙ weighed_power R f (n + i) x

        join : (n : ℕ) → nat R x · a (suc i) · plain n ⊹ b (suc i) · heavy n ≡ P n · term x i (n + i)
        join n =
            ap (λ (v : A). v ⊹ b (suc i) · heavy n)
            (flat (nat R x) (a (suc i)) (P n) (convolve R f (power R f (n + i)) x) ∙ ap (λ (v : A). a (suc i) · (P n · v)) (shared n))
            ∙ close (a (suc i)) (b (suc i)) (P n) (nat R (suc (n + i))) (weighed_first R f (n + i) x)

        none : (m : ℕ) → suc x ≤ m → delay i P m · term x i m ≡ 𝟘
        none m l = ap (λ (v : A). delay i P m · (count_factor i m · v)) (weighed_first_vanishes R f m x (omega arith)) ∙ simp ring_units

    right : (x : ℕ) → sum R k (λ i. share x i) ≡ middle x
    unfolding middle term count_factor
    right x =
        sum_cong R k (λ i l. share_delayed x i)
        ∙ sum_exchange R k (suc x) (λ i m. delay i P m · term x i m)
        ∙ sum_cong R (suc x) (λ m l. delay_min k m P (λ i. term x i m) ∙ sum_cong R (min k (suc m)) (λ i b. inner i m)
        ∙ sym (sum_scale_right R (min k (suc m)) (weighed_first R f m x) (λ i. count_factor i m · P (suc m - suc i)))
        ∙ ap (λ (v : A). v · weighed_first R f m x) (sym (law m)) ∙ simp ring)
      where
        inner : (i m : ℕ) → P (m - i) · (count_factor i m · weighed_first R f m x)
            ≡ count_factor i m · P (suc m - suc i) · weighed_first R f m x
        inner i m = rw (NL.suc-sub-suc m i) (simp ring)

    sundt : (x : ℕ) → nat R x · row f P 0 x ≡ sum R k (λ i. share x i)
    sundt x = left x ∙ sym (right x)

    -- with the convolutions carried in rows
    pub sundt_rows : (x : ℕ) → nat R x · row f P 0 x
        ≡ sum R k (λ i. sum R x (λ y. (nat R x · a (suc i) ⊹ nat R (suc y) · b (suc i)) · f (suc y) · row f P i (x - suc y)))
    unfolding share
    sundt_rows x = sundt x ∙ sum_cong R k (λ i l. convolve_mixed R f (row f P i) (nat R x · a (suc i)) (b (suc i)) x)

    -- as published, with b_i = i c_i
    module _ (c : ℕ → A) (divided : (i : ℕ) → nat R (suc i) · c i ≡ b (suc i)) where
      share_published : (x i : ℕ) → share x i
          ≡ nat R x · a (suc i) · convolve R (power R f (suc i)) (row f P 0) x
          ⊹ c i · convolve R (weighed R (power R f (suc i))) (row f P 0) x
      unfolding share weighed_first weighed
      share_published x i =
          ap₂ ◌⊹◌
          (ap (λ (v : A). nat R x · a (suc i) · v) (sym (row_power f P f i x) ∙ sym (convolve_left R (row f P 0) x (power_suc R f i))))
          (ap₂ ◌·◌ (sym (divided i)) (sym (row_power f P (weighed R f) i x))
          ∙ moved (nat R (suc i)) (c i) (convolve R (weighed_first R f i) (row f P 0) x)
          ∙ ap (λ (v : A). c i · v) (sym (convolve_scale_left R (weighed_first R f i) (row f P 0) (nat R (suc i)) x)
          ∙ sym (convolve_left R (row f P 0) x (weighed_power R f i))))
        where
          moved : (n c v : A) → n · c · v ≡ c · (n · v)
          moved n c v = simp ring

      pub sundt_published : (x : ℕ) → nat R x · row f P 0 x
          ≡ sum R x (λ y. row f P 0 (x - suc y) · sum R k (λ i. (nat R x · a (suc i) ⊹ nat R (suc y) · c i) · power R f (suc i) (suc y)))
      sundt_published x =
          sundt x
          ∙ sum_cong R k (λ i l. share_published x i ∙ convolve_mixed R (power R f (suc i)) (row f P 0) (nat R x · a (suc i)) (c i) x)
          ∙ sum_exchange R k x (λ i y. coefficient i y · row f P 0 (x - suc y))
          ∙ sum_cong R x (λ y l. sym (sum_scale_right R k (row f P 0 (x - suc y)) (λ i. coefficient i y))
          ∙ R.mul_comm (sum R k (λ i. coefficient i y)) (row f P 0 (x - suc y)))
        where
          coefficient : ℕ → ℕ → A
          coefficient i y = (nat R x · a (suc i) ⊹ nat R (suc y) · c i) · power R f (suc i) (suc y)
