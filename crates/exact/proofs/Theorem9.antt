-- Theorem 9 over a commutative semiring, for order 1 and severities from 0. What severity 0 brings stands beside the convolution with
-- severities from 1; each of n severities has the same share in their sum, so each term, by the number of claims, gives the next by the
-- theorem's right side, and the partial sums follow by adding up.
use mathlib.Core.Path.{◌≡◌, sym, ◌∙◌, ap, ap₂}
use Prim.Native.Nat.{ℕ, zero, suc, ◌-◌}
use native.Mathlib.Nat as NL
use Rattle.algebra.specs.Semiring.{Semiring, nat}
use Rattle.algebra.specs.Sum.{sum}
use Rattle.algebra.proofs.Semiring.{ring, ring_units, zero_add, mul_left_comm, nat_zero, nat_one}
use Rattle.algebra.proofs.Sum.{sum_cong, sum_add, sum_scale, sum_shift, sum_exchange}
use Rattle.exact.proofs.Convolution.{convolve, power, weighed, weighed_none, weighed_convolve, convolve_right, convolve_vanishes}
use Rattle.exact.proofs.Convolution.{convolve_scale, convolve_swap, convolve_mixed, one_more}

module _ (R : Semiring) where
  open R use {carrier as A, ◌⊹◌, ◌·◌}

  infixl 6 ◌⊹◌
  infixl 7 ◌·◌
  -- the sum over y from 0 to x of f y times g (x - y), severity 0 apart
  unfoldable pub convolve_all : (ℕ → A) → (ℕ → A) → ℕ → A
  convolve_all f g x = f 0 · g x ⊹ convolve R f g x

  unfoldable pub power_all : (ℕ → A) → ℕ → ℕ → A
  power_all f zero x = power R f zero x
  power_all f (suc n) x = convolve_all f (power_all f n) x

  pub convolve_all_sum : (f g : ℕ → A) (x : ℕ) → sum R (suc x) (λ y. f y · g (x - y)) ≡ convolve_all f g x
  unfolding convolve_all convolve
  convolve_all_sum f g x = sum_shift R x (λ y. f y · g (x - y)) ∙ ap (λ (z : ℕ). f 0 · g z ⊹ convolve R f g x) (NL.sub-zero x)

  convolve_add : (f g h : ℕ → A) (x : ℕ) → convolve R f (λ z. g z ⊹ h z) x ≡ convolve R f g x ⊹ convolve R f h x
  unfolding convolve
  convolve_add f g h x = sum_cong R x (λ y l. R.mul_add (f (suc y)) (g (x - suc y)) (h (x - suc y)))
      ∙ sum_add R x (λ y. f (suc y) · g (x - suc y)) (λ y. f (suc y) · h (x - suc y))

  module _ (f : ℕ → A) where
    -- the sum over the first severity y of y f(y) times the n-fold convolution of the others
    first : ℕ → ℕ → A
    first n x = convolve R (weighed R f) (power_all f n) x

    -- one severity more in the others: 0 or another
    first_next : (n x : ℕ) → f 0 · first n x ⊹ convolve R f (first n) x ≡ first (suc n) x
    unfolding first power_all convolve_all
    first_next n x =
        ap₂ ◌⊹◌ (sym (convolve_scale R (weighed R f) (power_all f n) (f 0) x)) (convolve_swap R f (weighed R f) (power_all f n) x)
        ∙ sym (convolve_add (weighed R f) (λ z. f 0 · power_all f n z) (convolve R f (power_all f n)) x)

    -- weighing is a derivation
    weighed_next : (n x : ℕ) → nat R x · power_all f (suc n) x
        ≡ first n x ⊹ (f 0 · (nat R x · power_all f n x) ⊹ convolve R f (weighed R (power_all f n)) x)
    unfolding power_all convolve_all first
    weighed_next n x =
        R.mul_add (nat R x) (f 0 · power_all f n x) (convolve R f (power_all f n) x)
        ∙ ap (λ (v : A). nat R x · (f 0 · power_all f n x) ⊹ v) (weighed_convolve R f (power_all f n) x)
        ∙ sorted (nat R x) (f 0) (power_all f n x) (first n x) (convolve R f (weighed R (power_all f n)) x)
      where
        sorted : (n f g u v : A) → n · (f · g) ⊹ (u ⊹ v) ≡ u ⊹ (f · (n · g) ⊹ v)
        sorted n f g u v = simp ring

    -- each of the n + 1 severities has the same share in their sum x
    weighed_power_all : (n x : ℕ) → nat R x · power_all f (suc n) x ≡ nat R (suc n) · first n x
    unfolding weighed power_all
    weighed_power_all zero x =
        weighed_next 0 x
        ∙ ap₂ (λ (u v : A). first 0 x ⊹ (f 0 · u ⊹ v)) (weighed_none R f x)
        (convolve_vanishes R f (weighed R (power_all f 0)) x (λ z l. weighed_none R f z))
        ∙ simp (nat_one, ring_units)
    weighed_power_all (suc n) x =
        weighed_next (suc n) x
        ∙ ap₂ (λ (u v : A). first (suc n) x ⊹ (f 0 · u ⊹ v)) (weighed_power_all n x)
        (convolve_right R f x (λ z l. weighed_power_all n z) ∙ convolve_scale R f (first n) (nat R (suc n)) x)
        ∙ shared (nat R (suc n)) (first (suc n) x) (f 0) (first n x) (convolve R f (first n) x)
        ∙ ap (λ (v : A). first (suc n) x ⊹ nat R (suc n) · v) (first_next n x)
        ∙ one_more R f (suc n) (first (suc n) x)
      where
        shared : (n s f u c : A) → s ⊹ (f · (n · u) ⊹ n · c) ≡ s ⊹ n · (f · u ⊹ c)
        shared n s f u c = simp ring

    -- ---- by the number of claims
    module _ (P : ℕ → A) where
      -- what n claims bring at x
      unfoldable pub term : ℕ → ℕ → A
      term n x = P n · power_all f n x

      -- and what 0 to n claims bring
      unfoldable pub partial : ℕ → ℕ → A
      partial n x = sum R (suc n) (λ m. term m x)

    module _ (a b : A) where
      -- (x a + y b) f(y)
      unfoldable pub factor : ℕ → ℕ → A
      factor x y = (nat R x · a ⊹ nat R y · b) · f y

      -- Theorem 9's right side for a sequence g, times x
      unfoldable pub theorem : (ℕ → A) → ℕ → A
      theorem g x = sum R (suc x) (λ y. factor x y · g (x - y))

      -- severity 0 apart
      pub theorem_apart : (g : ℕ → A) (x : ℕ)
          → theorem g x ≡ nat R x · a · f 0 · g x ⊹ sum R x (λ y. factor x (suc y) · g (x - suc y))
      unfolding theorem factor
      theorem_apart g x = sum_shift R x (λ y. factor x y · g (x - y))
          ∙ ap (λ (v : A). v ⊹ sum R x (λ y. factor x (suc y) · g (x - suc y)))
          (ap₂ (λ (v : A) (z : ℕ). (nat R x · a ⊹ v · b) · f 0 · g z) (nat_zero R) (NL.sub-zero x) ∙ simp ring_units)

      theorem_sum : (n : ℕ) (g : ℕ → ℕ → A) (x : ℕ) → sum R n (λ m. theorem (g m) x) ≡ theorem (λ z. sum R n (λ m. g m z)) x
      unfolding theorem
      theorem_sum n g x = sum_exchange R n (suc x) (λ m y. factor x y · g m (x - y))
          ∙ sum_cong R (suc x) (λ y l. sym (sum_scale R n (factor x y) (λ m. g m (x - y))))

      -- a sequence of the class of order 1
      module _ (P : ℕ → A) (law : (n : ℕ) → nat R (suc n) · P (suc n) ≡ (nat R (suc n) · a ⊹ b) · P n) where
        pub term_next : (n x : ℕ) → nat R x · term P (suc n) x ≡ theorem (term P n) x
        unfolding term power_all convolve_all first factor
        term_next n x =
            mul_left_comm R (nat R x) (P (suc n)) (power_all f (suc n) x) ∙ ap (λ (v : A). P (suc n) · v) (weighed_power_all n x)
            ∙ grouped (P (suc n)) (nat R (suc n)) (first n x) ∙ ap (λ (v : A). v · first n x) (law n)
            ∙ split (nat R (suc n)) a b (P n) (first n x)
            ∙ ap (λ (v : A). a · P n · v ⊹ b · (P n · first n x)) (sym (weighed_power_all n x))
            ∙ joined (nat R x) a b (P n) (f 0) (power_all f n x) (convolve R f (power_all f n) x) (first n x)
            ∙ sym (theorem_apart (term P n) x ∙ ap (λ (v : A). nat R x · a · f 0 · term P n x ⊹ v)
            (sym (convolve_mixed R f (term P n) (nat R x · a) b x) ∙ ap₂ (λ (u v : A). nat R x · a · u ⊹ b · v)
            (convolve_scale R f (power_all f n) (P n) x) (convolve_scale R (weighed R f) (power_all f n) (P n) x)))
          where
            grouped : (p n s : A) → p · (n · s) ≡ n · p · s
            grouped p n s = simp ring

            split : (n a b p s : A) → (n · a ⊹ b) · p · s ≡ a · p · (n · s) ⊹ b · (p · s)
            split n a b p s = simp ring

            joined : (n a b p f g c s : A) → a · p · (n · (f · g ⊹ c)) ⊹ b · (p · s)
                ≡ n · a · f · (p · g) ⊹ (n · a · (p · c) ⊹ b · (p · s))
            joined n a b p f g c s = simp ring

        pub partial_next : (n x : ℕ) → nat R x · partial P (suc n) x ≡ theorem (partial P n) x
        unfolding partial term power_all
        partial_next n x =
            ap (λ (v : A). nat R x · v) (sum_shift R (suc n) (λ m. term P m x))
            ∙ R.mul_add (nat R x) (term P 0 x) (sum R (suc n) (λ m. term P (suc m) x))
            ∙ ap₂ ◌⊹◌
            (mul_left_comm R (nat R x) (P 0) (power_all f 0 x) ∙ ap (λ (v : A). P 0 · v) (weighed_none R f x) ∙ R.mul_zero (P 0))
            (sum_scale R (suc n) (nat R x) (λ m. term P (suc m) x) ∙ sum_cong R (suc n) (λ m l. term_next m x)
            ∙ theorem_sum (suc n) (term P) x)
            ∙ zero_add R (theorem (partial P n) x)
