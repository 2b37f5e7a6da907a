-- Convolutions of sequences over a commutative semiring, for severities from 1 up: the value of the first sequence at 0 is never read.
-- What Sundt's recursion needs of them: they may be swapped and regrouped, and weighing a sequence by its places is a derivation.
use mathlib.Core.Path.{◌≡◌, refl, sym, ◌∙◌, ap, ap₂}
use Prim.Native.Nat.{ℕ, zero, suc, ◌-◌, ◌<◌, ◌≤◌, ◌+◌}
use native.Mathlib.Nat as NL
use native.Mathlib.Omega.{arith}
use Rattle.algebra.specs.Semiring.{Semiring, nat}
use Rattle.algebra.specs.Sum.{sum}
use Rattle.algebra.proofs.Semiring.{ring, ring_units, one_mul, zero_mul, nat_zero, nat_suc, nat_one, nat_add}
use Rattle.algebra.proofs.Sum.{sum_suc, sum_cong, sum_add, sum_scale, sum_scale_right, sum_vanishes, sum_diagonals, sum_triangle}

module _ (R : Semiring) where
  open R use {carrier as A, 𝟘, 𝟙, ◌⊹◌, ◌·◌}

  infixl 6 ◌⊹◌
  infixl 7 ◌·◌
  -- the sum over y from 1 to x of f y times g (x - y)
  unfoldable pub convolve : (ℕ → A) → (ℕ → A) → ℕ → A
  convolve f g x = sum R x (λ y. f (suc y) · g (x - suc y))

  -- the n-fold convolution of f
  unfoldable pub power : (ℕ → A) → ℕ → ℕ → A
  power f zero zero = 𝟙
  power f zero (suc x) = 𝟘
  power f (suc n) x = convolve f (power f n) x

  -- each value times its place
  unfoldable pub weighed : (ℕ → A) → ℕ → A
  weighed f x = nat R x · f x

  pub power_suc : (f : ℕ → A) (n x : ℕ) → power f (suc n) x ≡ convolve f (power f n) x
  unfolding power
  power_suc f n x = refl

  -- only the places below x of the second sequence count
  pub convolve_right : (f : ℕ → A) {g h : ℕ → A} (x : ℕ) → ((z : ℕ) → z < x → g z ≡ h z) → convolve f g x ≡ convolve f h x
  unfolding convolve
  convolve_right f x e = sum_cong R x (λ y l. ap (λ (v : A). f (suc y) · v) (e (x - suc y) (omega arith)))

  pub convolve_left : (h : ℕ → A) {f g : ℕ → A} (x : ℕ) → ((y : ℕ) → f y ≡ g y) → convolve f h x ≡ convolve g h x
  unfolding convolve
  convolve_left h x e = sum_cong R x (λ y l. ap (λ (v : A). v · h (x - suc y)) (e (suc y)))

  -- a factor of either sequence
  pub convolve_scale : (f g : ℕ → A) (c : A) (x : ℕ) → convolve f (λ z. c · g z) x ≡ c · convolve f g x
  unfolding convolve
  convolve_scale f g c x = sum_cong R x (λ y l. simp ring) ∙ sym (sum_scale R x c (λ y. f (suc y) · g (x - suc y)))

  pub convolve_scale_left : (f g : ℕ → A) (c : A) (x : ℕ) → convolve (λ z. c · f z) g x ≡ c · convolve f g x
  unfolding convolve
  convolve_scale_left f g c x = sum_cong R x (λ y l. simp ring) ∙ sym (sum_scale R x c (λ y. f (suc y) · g (x - suc y)))

  pub convolve_vanishes : (f g : ℕ → A) (x : ℕ) → ((z : ℕ) → z < x → g z ≡ 𝟘) → convolve f g x ≡ 𝟘
  unfolding convolve
  convolve_vanishes f g x h = sum_vanishes R x _
      (λ y l. ap (λ (v : A). f (suc y) · v) (h (x - suc y) (omega arith)) ∙ R.mul_zero (f (suc y)))

  -- f with (g with h) is g with (f with h)
  pub convolve_swap : (f g h : ℕ → A) (x : ℕ) → convolve f (convolve g h) x ≡ convolve g (convolve f h) x
  unfolding convolve
  convolve_swap f g h x =
      sum_cong R x (λ y l. sum_scale R (x - suc y) (f (suc y)) (λ z. g (suc z) · h (x - suc y - suc z)))
      ∙ sum_triangle R x (λ y z. f (suc y) · (g (suc z) · h (x - suc y - suc z)))
      ∙ sum_cong R x (λ z l. sum_cong R (x - suc z) (λ y m. inner y z)
      ∙ sym (sum_scale R (x - suc z) (g (suc z)) (λ y. f (suc y) · h (x - suc z - suc y))))
    where
      inner : (y z : ℕ) → f (suc y) · (g (suc z) · h (x - suc y - suc z)) ≡ g (suc z) · (f (suc y) · h (x - suc z - suc y))
      inner y z = rw (NL.sub_right_comm x (suc y) (suc z)) (simp ring)

  -- (f with g) with h is f with (g with h), and what g has at 0, which only the left side reads
  pub convolve_regroup : (f g h : ℕ → A) (x : ℕ) → convolve (convolve f g) h x ≡ convolve f (convolve g h) x ⊹ g 0 · convolve f h x
  unfolding convolve
  convolve_regroup f g h x =
      sum_cong R x (λ u l. ap (λ (v : A). v · h (x - suc u)) (sum_suc R u (λ y. f (suc y) · g (suc u - suc y)))
      ∙ split (sum R u (λ y. f (suc y) · g (suc u - suc y))) (f (suc u)) (g (suc u - suc u)) (h (x - suc u))
      ∙ ap₂ ◌⊹◌ (inner u l) (ap (λ (k : ℕ). g k · (f (suc u) · h (x - suc u))) (none u)))
      ∙ sum_add R x (λ u. sum R u (λ y. F y (u - suc y))) (λ u. g 0 · (f (suc u) · h (x - suc u)))
      ∙ ap₂ ◌⊹◌
      (sym (sum_diagonals R x F) ∙ sum_cong R x (λ y l. sym (sum_scale R (x - suc y) (f (suc y)) (λ z. g (suc z) · h (x - suc y - suc z)))))
      (sym (sum_scale R x (g 0) (λ u. f (suc u) · h (x - suc u))))
    where
      F : ℕ → ℕ → A
      F y z = f (suc y) · (g (suc z) · h (x - suc y - suc z))

      split : (s v w t : A) → (s ⊹ v · w) · t ≡ s · t ⊹ w · (v · t)
      split s v w t = simp ring

      none : (u : ℕ) → suc u - suc u ≡ 0
      none u = omega arith

      place : (u y : ℕ) → y < u → suc u - suc y ≡ suc (u - suc y)
      place u y l = omega arith

      rest : (u y : ℕ) → y < u → u < x → x - suc u ≡ x - suc y - suc (u - suc y)
      rest u y l m = omega arith

      inner : (u : ℕ) → u < x → sum R u (λ y. f (suc y) · g (suc u - suc y)) · h (x - suc u) ≡ sum R u (λ y. F y (u - suc y))
      inner u m = sum_scale_right R u (h (x - suc u)) (λ y. f (suc y) · g (suc u - suc y))
          ∙ sum_cong R u (λ y l. R.mul_assoc (f (suc y)) (g (suc u - suc y)) (h (x - suc u))
          ∙ ap₂ (λ (i j : ℕ). f (suc y) · (g i · h j)) (place u y l) (rest u y l m))

  -- weighing is a derivation: x (f with g) is (weighed f) with g and f with (weighed g)
  pub weighed_convolve : (f g : ℕ → A) (x : ℕ) → nat R x · convolve f g x ≡ convolve (weighed f) g x ⊹ convolve f (weighed g) x
  unfolding convolve weighed
  weighed_convolve f g x =
      sum_scale R x (nat R x) (λ y. f (suc y) · g (x - suc y))
      ∙ sum_cong R x split
      ∙ sum_add R x (λ y. nat R (suc y) · f (suc y) · g (x - suc y)) (λ y. f (suc y) · (nat R (x - suc y) · g (x - suc y)))
    where
      parts : (y : ℕ) → y < x → x ≡ suc y + (x - suc y)
      parts y l = omega arith

      split : (y : ℕ) → y < x → nat R x · (f (suc y) · g (x - suc y))
          ≡ nat R (suc y) · f (suc y) · g (x - suc y) ⊹ f (suc y) · (nat R (x - suc y) · g (x - suc y))
      split y l = ap (λ (v : A). v · (f (suc y) · g (x - suc y))) (ap (nat R) (parts y l) ∙ nat_add R (suc y) (x - suc y)) ∙ simp ring

  -- two convolutions of one sequence as one sum
  pub convolve_mixed : (g r : ℕ → A) (u v : A) (x : ℕ)
      → u · convolve g r x ⊹ v · convolve (weighed g) r x ≡ sum R x (λ y. (u ⊹ nat R (suc y) · v) · g (suc y) · r (x - suc y))
  unfolding convolve weighed
  convolve_mixed g r u v x =
      ap₂ ◌⊹◌ (sum_scale R x u (λ y. g (suc y) · r (x - suc y))) (sum_scale R x v (λ y. nat R (suc y) · g (suc y) · r (x - suc y)))
      ∙ sym (sum_add R x (λ y. u · (g (suc y) · r (x - suc y))) (λ y. v · (nat R (suc y) · g (suc y) · r (x - suc y))))
      ∙ sum_cong R x (λ y l. joined u v (nat R (suc y)) (g (suc y)) (r (x - suc y)))
    where
      joined : (u v n g r : A) → u · (g · r) ⊹ v · (n · g · r) ≡ (u ⊹ n · v) · g · r
      joined u v n g r = simp ring

  module _ (f : ℕ → A) where
    -- n severities of 1 or more come to n or more
    pub power_vanishes : (n x : ℕ) → x < n → power f n x ≡ 𝟘
    unfolding power
    power_vanishes zero x h = absurd (NL.not-suc-le-zero h)
    power_vanishes (suc n) x h = convolve_vanishes f (power f n) x (λ z l. power_vanishes n z (omega arith))

    -- the unit of convolutions stands at 0, which is not read
    pub convolve_unit : (g : ℕ → A) (x : ℕ) → convolve (power f 0) g x ≡ 𝟘
    unfolding convolve power
    convolve_unit g x = sum_vanishes R x _ (λ y l. zero_mul R (g (x - suc y)))

    pub weighed_none : (x : ℕ) → nat R x · power f 0 x ≡ 𝟘
    unfolding power
    weighed_none zero = ap (λ (v : A). v · 𝟙) (nat_zero R) ∙ zero_mul R 𝟙
    weighed_none (suc x) = R.mul_zero (nat R (suc x))

    -- the sum over the first severity y of y f(y) times the m-fold convolution of the others
    unfoldable pub weighed_first : ℕ → ℕ → A
    weighed_first m x = convolve (weighed f) (power f m) x

    pub weighed_first_vanishes : (m x : ℕ) → x ≤ m → weighed_first m x ≡ 𝟘
    unfolding weighed_first
    weighed_first_vanishes m x h = convolve_vanishes (weighed f) (power f m) x (λ z l. power_vanishes m z (omega arith))

    pub one_more : (m : ℕ) (s : A) → s ⊹ nat R m · s ≡ nat R (suc m) · s
    one_more m s = sym (rw nat_suc (simp (ring, ring_units)))

    -- each of the m + 1 severities has the same share in their sum x
    pub weighed_power : (m x : ℕ) → nat R x · power f (suc m) x ≡ nat R (suc m) · weighed_first m x
    unfolding power weighed_first weighed
    weighed_power zero x =
        weighed_convolve f (power f 0) x
        ∙ ap (λ (v : A). weighed_first 0 x ⊹ v) (convolve_vanishes f (weighed (power f 0)) x (λ z l. weighed_none z))
        ∙ R.add_zero (weighed_first 0 x) ∙ sym (one_mul R (weighed_first 0 x)) ∙ ap (λ (v : A). v · weighed_first 0 x) (sym (nat_one R))
    weighed_power (suc m) x =
        weighed_convolve f (power f (suc m)) x
        ∙ ap (λ (v : A). weighed_first (suc m) x ⊹ v)
        (convolve_right f x (λ z l. weighed_power m z) ∙ convolve_scale f (weighed_first m) (nat R (suc m)) x
        ∙ ap (λ (v : A). nat R (suc m) · v) (convolve_swap f (weighed f) (power f m) x))
        ∙ one_more (suc m) (weighed_first (suc m) x)
