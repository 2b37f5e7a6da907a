-- Derived laws of commutative rings: negatives, and the integers in a ring, which are added and multiplied as they are in ℤ.
use mathlib.Core.Path.{◌≡◌, refl, sym, ◌∙◌, ap, ap₂}
use Prim.Native.Nat.{ℕ, suc, ◌≤◌}
use native.Mathlib.Nat as NL
use lib.IntN.{ℤ, pos, negsuc, neg_ℤ, ◌+ℤ◌, ◌*ℤ◌}
use Rattle.algebra.specs.Parts.{up, down}
use Rattle.algebra.specs.Semiring.{Semiring, nat}
use Rattle.algebra.specs.Ring.{Ring, int}
use Rattle.algebra.proofs.Semiring.{ring, ⊹-comm, ⊹-assoc, add_left_comm, zero_add, zero_mul, add_mul, nat_zero, nat_add, nat_mul}
use Rattle.algebra.proofs.Integer.{split_add, split_mul, split_neg}

module _ (R : Ring) where
  open R.semiring use {carrier as A, 𝟘, 𝟙, ◌⊹◌, ◌·◌}
  open R use {neg}

  infixl 6 ◌⊹◌
  infixl 7 ◌·◌
  abbrev S : Semiring
  S = R.semiring

  -- a common summand cancels
  pub add_cancel : (a b c : A) → a ⊹ c ≡ b ⊹ c → a ≡ b
  add_cancel a b c h =
      sym (S.add_zero a) ∙ ap (λ (x : A). a ⊹ x) (sym (R.add_neg c)) ∙ sym (S.add_assoc a c (neg c))
      ∙ ap (λ (x : A). x ⊹ neg c) h ∙ S.add_assoc b c (neg c) ∙ ap (λ (x : A). b ⊹ x) (R.add_neg c) ∙ S.add_zero b

  -- what added to a gives zero is its negative
  pub neg_unique : (a b : A) → b ⊹ a ≡ 𝟘 → b ≡ neg a
  neg_unique a b h = add_cancel b (neg a) a (h ∙ sym (R.add_neg a) ∙ S.add_comm a (neg a))

  pub neg_zero : neg 𝟘 ≡ 𝟘
  neg_zero = sym (neg_unique 𝟘 𝟘 (S.add_zero 𝟘))

  pub neg_neg : (a : A) → neg (neg a) ≡ a
  neg_neg a = sym (neg_unique (neg a) a (R.add_neg a))

  pub neg_mul : (a b : A) → neg a · b ≡ neg (a · b)
  neg_mul a b = neg_unique (a · b) (neg a · b)
      (sym (add_mul S (neg a) a b) ∙ ap (λ (x : A). x · b) (S.add_comm (neg a) a ∙ R.add_neg a) ∙ zero_mul S b)

  pub mul_neg : (a b : A) → a · neg b ≡ neg (a · b)
  mul_neg a b = S.mul_comm a (neg b) ∙ neg_mul b a ∙ ap neg (S.mul_comm b a)

  pub neg_add : (a b : A) → neg (a ⊹ b) ≡ neg a ⊹ neg b
  neg_add a b = sym (neg_unique (a ⊹ b) (neg a ⊹ neg b) (regroup ∙ ap₂ ◌⊹◌ (R.add_neg a) (R.add_neg b) ∙ S.add_zero 𝟘))
    where
      regroup : neg a ⊹ neg b ⊹ (a ⊹ b) ≡ a ⊹ neg a ⊹ (b ⊹ neg b)
      regroup = simp (⊹-comm, ⊹-assoc, add_left_comm)

-- negatives taken outwards
pub ruleset ring_signs = (neg_add, neg_mul, mul_neg, neg_neg, neg_zero)

module _ (R : Ring) where
  open R.semiring use {carrier as A, 𝟘, 𝟙, ◌⊹◌, ◌·◌}
  open R use {neg}

  infixl 6 ◌⊹◌
  infixl 7 ◌·◌
  n : ℕ → A
  n = nat R.semiring

  pub int_pos : (m : ℕ) → int R (pos m) ≡ nat R.semiring m
  unfolding int
  int_pos m = refl

  -- and an integer above zero is its part above zero
  pub int_up : (z : ℤ) → 1 ≤ up z → nat R.semiring (up z) ≡ int R z
  int_up (pos m) h = sym (int_pos m)
  int_up (negsuc m) h = absurd (NL.not-suc-le-zero h)

  -- an integer in the ring, by its parts
  int_split : (z : ℤ) → int R z ≡ n (up z) ⊹ neg (n (down z))
  unfolding int n
  int_split (pos m) = sym (ap (λ (v : A). n m ⊹ v) (ap neg (nat_zero R.semiring) ∙ neg_zero R) ∙ R.semiring.add_zero (n m))
  int_split (negsuc m) = sym (ap (λ (v : A). v ⊹ neg (n (suc m))) (nat_zero R.semiring) ∙ zero_add R.semiring (neg (n (suc m))))

  -- a difference is known by its sums
  same_difference : (a b c d : A) → a ⊹ d ≡ c ⊹ b → a ⊹ neg b ≡ c ⊹ neg d
  same_difference a b c d e = add_cancel R (a ⊹ neg b) (c ⊹ neg d) (b ⊹ d)
      (back a b d ∙ e ∙ sym (ap (λ (v : A). c ⊹ neg d ⊹ v) (R.semiring.add_comm b d) ∙ back c d b))
    where
      move : (u v w : A) → u ⊹ neg v ⊹ (v ⊹ w) ≡ u ⊹ w ⊹ (v ⊹ neg v)
      move u v w = simp (⊹-comm, ⊹-assoc, add_left_comm)

      back : (u v w : A) → u ⊹ neg v ⊹ (v ⊹ w) ≡ u ⊹ w
      back u v w = move u v w ∙ ap (λ (x : A). u ⊹ w ⊹ x) (R.add_neg v) ∙ R.semiring.add_zero (u ⊹ w)

  pub int_neg : (a : ℤ) → int R (neg_ℤ a) ≡ neg (int R a)
  int_neg a =
      int_split (neg_ℤ a) ∙ ap₂ (λ (i j : ℕ). n i ⊹ neg (n j)) (split_neg a).0 (split_neg a).1
      ∙ R.semiring.add_comm (n (down a)) (neg (n (up a)))
      ∙ sym (ap neg (int_split a) ∙ neg_add R (n (up a)) (neg (n (down a))) ∙ ap (λ (v : A). neg (n (up a)) ⊹ v) (neg_neg R (n (down a))))

  pub int_add : (a b : ℤ) → int R (a +ℤ b) ≡ int R a ⊹ int R b
  unfolding n
  int_add a b =
      int_split (a +ℤ b) ∙ same_difference (n (up (a +ℤ b))) (n (down (a +ℤ b))) (n (up a) ⊹ n (up b)) (n (down a) ⊹ n (down b)) parts
      ∙ ap (λ (v : A). n (up a) ⊹ n (up b) ⊹ v) (neg_add R (n (down a)) (n (down b)))
      ∙ regroup (n (up a)) (n (up b)) (neg (n (down a))) (neg (n (down b)))
      ∙ sym (ap₂ ◌⊹◌ (int_split a) (int_split b))
    where
      regroup : (p q r s : A) → p ⊹ q ⊹ (r ⊹ s) ≡ p ⊹ r ⊹ (q ⊹ s)
      regroup p q r s = simp (⊹-assoc, add_left_comm)

      parts : n (up (a +ℤ b)) ⊹ (n (down a) ⊹ n (down b)) ≡ n (up a) ⊹ n (up b) ⊹ n (down (a +ℤ b))
      parts = simp (← nat_add) (ap n (split_add a b))

  pub int_mul : (a b : ℤ) → int R (a *ℤ b) ≡ int R a · int R b
  unfolding n
  int_mul a b =
      int_split (a *ℤ b)
      ∙ same_difference (n (up (a *ℤ b))) (n (down (a *ℤ b))) (p · r ⊹ q · s) (p · s ⊹ q · r) parts
      ∙ ap (λ (v : A). p · r ⊹ q · s ⊹ v) (neg_add R (p · s) (q · r))
      ∙ sym (product p q r s)
      ∙ sym (ap₂ ◌·◌ (int_split a) (int_split b))
    where
      p : A
      p = n (up a)

      q : A
      q = n (down a)

      r : A
      r = n (up b)

      s : A
      s = n (down b)

      product : (p q r s : A) → (p ⊹ neg q) · (r ⊹ neg s) ≡ p · r ⊹ q · s ⊹ (neg (p · s) ⊹ neg (q · r))
      product p q r s = simp (ring, ring_signs)

      parts : n (up (a *ℤ b)) ⊹ (p · s ⊹ q · r) ≡ p · r ⊹ q · s ⊹ n (down (a *ℤ b))
      parts = simp (← nat_add, ← nat_mul) (ap n (split_mul a b))
