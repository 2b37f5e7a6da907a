-- Alternating sums, by peeling the front: what is left changes its sign.
use mathlib.Core.Path.{◌≡◌, refl, sym, ◌∙◌, ap, ap₂}
use mathlib.Core.Bool.{Bool, true, false, not, cond}
use mathlib.Core.List.{[], ◌∷◌}
use Prim.Native.Nat.{ℕ, zero, suc, ◌+◌, ◌%◌, ◌<◌}
use native.Mathlib.Nat as NL
use native.Mathlib.Omega.{arith}
use lib.Dec.{eqb}
use Rattle.algebra.specs.Semiring.{nat}
use Rattle.algebra.specs.Ring.{Ring}
use Rattle.algebra.specs.Order.{OrderedRing}
use Rattle.algebra.specs.Sum.{sum}
use Rattle.algebra.specs.Alternating.{is_even, signed_at, alternating, slack, AlternatingSuc, AlternatingAdd, AlternatingBounds}
use Rattle.algebra.specs.Solver.{var, null, unit, ◌:+◌, ◌:*◌, :-◌}
use Rattle.algebra.proofs.Semiring.{nat_suc, nat_zero, zero_add}
use Rattle.algebra.proofs.Ring.{neg_zero, neg_neg, neg_add, mul_neg}
use Rattle.algebra.proofs.Solver.{solve}
use Rattle.algebra.proofs.Sum.{sum_related, sum_shift, sum_zero, sum_cong}
use Rattle.algebra.proofs.Order.{rewritten, le_of_eq, add_mono, neg_mono}

-- a number is even where its remainder by 2 is 0
pub even_mod : (j : ℕ) → eqb (j % 2) 0 ≡ is_even j
even_mod zero = refl
even_mod (suc zero) = refl
even_mod (suc (suc j)) = ap (λ (r : ℕ). eqb r 0) (two_more j) ∙ even_mod j ∙ sym (not_not (is_even j))
  where
    two_more : (j : ℕ) → suc (suc j) % 2 ≡ j % 2
    two_more j = ap (λ (n : ℕ). n % 2) (more j) ∙ NL.add-mod_right j 2
      where
        more : (j : ℕ) → suc (suc j) ≡ j + 2
        more j = omega arith

    not_not : (b : Bool) → not (not b) ≡ b
    not_not true = refl
    not_not false = refl

module _ (R : Ring) where
  open R.semiring use {carrier as A, 𝟘, ◌⊹◌, ◌·◌}
  open R use {neg}

  infixl 6 ◌⊹◌
  infixl 7 ◌·◌
  pub signed_suc : (j : ℕ) (x : A) → signed_at R (suc j) x ≡ neg (signed_at R j x)
  signed_suc j x = by (is_even j)
    where
      by : (b : Bool) → cond (not b) x (neg x) ≡ neg (cond b x (neg x))
      by true = refl
      by false = sym (neg_neg R x)

  pub signed_mul : (j : ℕ) (x y : A) → x · signed_at R j y ≡ signed_at R j (x · y)
  signed_mul j x y = by (is_even j)
    where
      by : (b : Bool) → x · cond b y (neg y) ≡ cond b (x · y) (neg (x · y))
      by true = refl
      by false = mul_neg R x y

  sum_neg : (n : ℕ) (f g : ℕ → A) → ((i : ℕ) → i < n → f i ≡ neg (g i)) → sum R.semiring n f ≡ neg (sum R.semiring n g)
  sum_neg n f g h = sum_related (λ x y. x ≡ neg y) 𝟘 ◌⊹◌ 𝟘 ◌⊹◌ (sym (neg_zero R))
      (λ a c b d p q. ap₂ ◌⊹◌ p q ∙ sym (neg_add R b d)) n f g h

  pub alternating_zero : (a : ℕ → A) → alternating R 0 a ≡ 𝟘
  unfolding alternating
  alternating_zero a = sum_zero R.semiring (λ j. signed_at R j (a j))

  pub alternating_suc : AlternatingSuc R
  unfolding alternating
  alternating_suc n a = sum_shift R.semiring n (λ j. signed_at R j (a j))
      ∙ ap (λ (x : A). a 0 ⊹ x) (sum_neg n _ (λ j. signed_at R j (a (suc j))) (λ j l. signed_suc j (a (suc j))))

  pub alternating_one : (a : ℕ → A) → alternating R 1 a ≡ a 0
  alternating_one a = alternating_suc 0 a ∙ ap (λ (x : A). a 0 ⊹ neg x) (alternating_zero (λ i. a (suc i)))
      ∙ ap (λ (x : A). a 0 ⊹ x) (neg_zero R) ∙ R.semiring.add_zero (a 0)

  pub alternating_cong : (n : ℕ) {a b : ℕ → A} → ((i : ℕ) → a i ≡ b i) → alternating R n a ≡ alternating R n b
  unfolding alternating
  alternating_cong n h = sum_cong R.semiring n (λ j l. ap (signed_at R j) (h j))

  pub alternating_add : AlternatingAdd R
  alternating_add zero n a = ap (λ (k : ℕ). alternating R k a) (NL.zero-add n) ∙ alternating_cong n (λ i. ap a (sym (NL.zero-add i)))
      ∙ sym (ap (λ (x : A). x ⊹ alternating R n (λ i. a (0 + i))) (alternating_zero a) ∙ zero_add R.semiring _)
  alternating_add (suc m) n a =
      ap (λ (k : ℕ). alternating R k a) (NL.suc-add m n) ∙ alternating_suc (m + n) a
      ∙ ap (λ (x : A). a 0 ⊹ neg x) (alternating_add m n (λ i. a (suc i)))
      ∙ ap (λ (x : A). a 0 ⊹ x) (neg_add R (alternating R m (λ i. a (suc i))) (signed_at R m later))
      ∙ sym (R.semiring.add_assoc (a 0) (neg (alternating R m (λ i. a (suc i)))) (neg (signed_at R m later)))
      ∙ ap₂ ◌⊹◌ (sym (alternating_suc m a)) (sym (signed_suc m later))
      ∙ ap (λ (x : A). alternating R (suc m) a ⊹ signed_at R (suc m) x) (alternating_cong n (λ i. ap a (sym (NL.suc-add m i))))
    where
      later : A
      later = alternating R n (λ i. a (suc (m + i)))

module _ (O : OrderedRing) where
  open O use {◌⊑◌}
  open O.ring use {neg}
  open O.ring.semiring use {carrier as A, 𝟘, 𝟙, ◌⊹◌, ◌·◌}

  infix 4 ◌⊑◌
  infixl 6 ◌⊹◌
  infixl 7 ◌·◌
  abbrev R : Ring
  R = O.ring

  pub alternating_bounds : AlternatingBounds O
  alternating_bounds e e_nonneg zero a nonneg steps = (
    rewritten O (nonneg 0 (omega arith)) (nothing e) (sym (alternating_one R a)),
    le_of_eq O (alternating_one R a ∙ more (a 0) e),
  )
    where
      nothing : (e : A) → 𝟘 ≡ neg (slack O 0 e)
      nothing e = solve R (e ∷ []) null (:- (null :* var 0)) tt ∙ ap (λ (m : A). neg (m · e)) (sym (nat_zero R.semiring))

      more : (x e : A) → x ≡ x ⊹ slack O 0 e
      more x e = solve R (x ∷ e ∷ []) (var 0) (var 0 :+ null :* var 1) tt ∙ ap (λ (m : A). x ⊹ m · e) (sym (nat_zero R.semiring))
  alternating_bounds e e_nonneg (suc n) a nonneg steps = by (alternating R (suc n) (λ i. a (suc i)))
      (alternating_bounds e e_nonneg n (λ i. a (suc i)) (λ i l. nonneg (suc i) (omega arith)) (λ i l. steps (suc i) (omega arith)))
      (alternating_suc R (suc n) a)
    where
      taken : (x m e : A) → x ⊹ neg (x ⊹ e ⊹ m · e) ≡ neg ((m ⊹ 𝟙) · e)
      taken x m e = solve R (x ∷ m ∷ e ∷ []) (var 0 :+ :- (var 0 :+ var 2 :+ var 1 :* var 2)) (:- ((var 1 :+ unit) :* var 2)) tt

      kept : (x m e : A) → x ⊹ neg (neg (m · e)) ⊹ e ≡ x ⊹ (m ⊹ 𝟙) · e
      kept x m e = solve R (x ∷ m ∷ e ∷ []) (var 0 :+ :- :- (var 1 :* var 2) :+ var 2) (var 0 :+ (var 1 :+ unit) :* var 2) tt

      by : (X : A) → (neg (slack O n e) ⊑ X) × (X ⊑ a 1 ⊹ slack O n e) → {Y : A} → Y ≡ a 0 ⊹ neg X
          → (neg (slack O (suc n) e) ⊑ Y) × (Y ⊑ a 0 ⊹ slack O (suc n) e)
      by X (low, high) y = (
        rewritten O (add_mono O (O.le_refl (a 0))
            (neg_mono O (O.le_trans high (add_mono O (steps 0 (omega arith)) (O.le_refl (slack O n e))))))
            (taken (a 0) (nat R.semiring n) e ∙ ap (λ (m : A). neg (m · e)) (sym (nat_suc R.semiring n))) (sym y),
        rewritten O (add_mono O (add_mono O (O.le_refl (a 0)) (neg_mono O low)) e_nonneg)
            (R.semiring.add_zero (a 0 ⊹ neg X) ∙ sym y)
            (kept (a 0) (nat R.semiring n) e ∙ ap (λ (m : A). a 0 ⊹ m · e) (sym (nat_suc R.semiring n))),
      )
