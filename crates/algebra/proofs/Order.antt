-- Derived laws of ordered rings. A difference that is zero or more says the same as an order (`of_difference`, `difference`), and the
-- solver turns one form of a difference into another.
use mathlib.Core.Path.{◌≡◌, refl, sym, ◌∙◌, ap, subst₂}
use mathlib.Core.List.{[], ◌∷◌}
use Prim.Native.Nat.{ℕ, zero, suc, ◌≤◌, ◌<◌, ◌+◌, ◌-◌}
use native.Mathlib.Nat as NL
use lib.IntN.{ℤ, pos, ◌+ℤ◌}
use lib.Signed.{◌≤ℤ◌}
use Rattle.algebra.specs.Parts.{up, down}
use Rattle.algebra.specs.Semiring.{nat}
use Rattle.algebra.specs.Ring.{Ring, int}
use Rattle.algebra.specs.Order.{OrderedRing}
use Rattle.algebra.specs.Sum.{sum}
use Rattle.algebra.specs.Solver.{var, null, unit, ◌:+◌, ◌:*◌, :-◌}
use Rattle.algebra.proofs.Semiring.{nat_zero, nat_suc}
use Rattle.algebra.proofs.Ring.{int_pos, int_add}
use Rattle.algebra.proofs.Solver.{solve}
use Rattle.algebra.proofs.Sum.{sum_related}
use Rattle.algebra.proofs.Integer.{signed, split_add, pos_mono}

module _ (O : OrderedRing) where
  open O use {◌⊑◌}
  open O.ring use {neg}
  open O.ring.semiring use {carrier as A, 𝟘, 𝟙, ◌⊹◌, ◌·◌}

  infix 4 ◌⊑◌
  infixl 6 ◌⊹◌
  infixl 7 ◌·◌
  abbrev R : Ring
  R = O.ring

  -- the same order, its ends written otherwise
  pub rewritten : {a b c d : A} → a ⊑ b → a ≡ c → b ≡ d → c ⊑ d
  rewritten h p q = subst₂ (λ (x y : A). x ⊑ y) p q h

  pub le_of_eq : {a b : A} → a ≡ b → a ⊑ b
  le_of_eq {a} e = rewritten (O.le_refl a) refl e

  pub add_mono : {a b c d : A} → a ⊑ b → c ⊑ d → a ⊹ c ⊑ b ⊹ d
  add_mono {a} {b} {c} {d} h k =
      O.le_trans (O.add_le c h) (rewritten (O.add_le b k) (R.semiring.add_comm c b) (R.semiring.add_comm d b))

  pub difference : {a b : A} → a ⊑ b → 𝟘 ⊑ b ⊹ neg a
  difference {a} h = rewritten (O.add_le (neg a) h) (R.add_neg a) refl

  pub of_difference : {a b : A} → 𝟘 ⊑ b ⊹ neg a → a ⊑ b
  of_difference {a} {b} h = rewritten (O.add_le a h)
      (solve R (a ∷ []) (null :+ var 0) (var 0) tt)
      (solve R (a ∷ b ∷ []) (var 1 :+ :- var 0 :+ var 0) (var 1) tt)

  pub neg_mono : {a b : A} → a ⊑ b → neg b ⊑ neg a
  neg_mono {a} {b} h = of_difference (rewritten (difference h) refl
      (solve R (a ∷ b ∷ []) (var 1 :+ :- var 0) (:- var 0 :+ :- :- var 1) tt))

  -- a factor that is zero or more keeps the order, one that is zero or less turns it
  pub mul_mono : {a b : A} (c : A) → 𝟘 ⊑ c → a ⊑ b → c · a ⊑ c · b
  mul_mono {a} {b} c n h = of_difference (rewritten (O.mul_nonneg n (difference h)) refl
      (solve R (a ∷ b ∷ c ∷ []) (var 2 :* (var 1 :+ :- var 0)) (var 2 :* var 1 :+ :- (var 2 :* var 0)) tt))

  pub mul_turn : {a b : A} (c : A) → c ⊑ 𝟘 → a ⊑ b → c · b ⊑ c · a
  mul_turn {a} {b} c n h = of_difference (rewritten (O.mul_nonneg (difference n) (difference h)) refl
      (solve R (a ∷ b ∷ c ∷ []) ((null :+ :- var 2) :* (var 1 :+ :- var 0)) (var 2 :* var 0 :+ :- (var 2 :* var 1)) tt))

  -- 1 is a square
  one_nonneg : 𝟘 ⊑ 𝟙
  one_nonneg = by (O.le_dec 𝟘 𝟙)
    where
      by : Dec (𝟘 ⊑ 𝟙) → 𝟘 ⊑ 𝟙
      by (yes h) = h
      by (no f) =
          let m : 𝟘 ⊑ 𝟘 ⊹ neg 𝟙 = difference (O.le_total f) in
          rewritten (O.mul_nonneg m m) refl (solve R [] ((null :+ :- unit) :* (null :+ :- unit)) unit tt)

  pub nat_nonneg : (n : ℕ) → 𝟘 ⊑ nat R.semiring n
  nat_nonneg zero = le_of_eq (sym (nat_zero R.semiring))
  nat_nonneg (suc n) = rewritten (add_mono (nat_nonneg n) one_nonneg) (R.semiring.add_zero 𝟘) (sym (nat_suc R.semiring n))

  -- a positive natural factor may be divided out: were b below a, the difference would grow by the factor
  pub cancel_le : {a b : A} (n : ℕ) → 1 ≤ n → nat R.semiring n · a ⊑ nat R.semiring n · b → a ⊑ b
  cancel_le zero l h = absurd (NL.not-suc-le-zero l)
  cancel_le {a} {b} (suc n) l h = by (O.le_dec a b)
    where
      m : A
      m = nat R.semiring n

      shrunk : (a b m : A) → m · (a ⊹ neg b) ⊹ ((m ⊹ 𝟙) · b ⊹ neg ((m ⊹ 𝟙) · a)) ≡ b ⊹ neg a
      shrunk a b m = solve R (a ∷ b ∷ m ∷ [])
          (var 2 :* (var 0 :+ :- var 1) :+ ((var 2 :+ unit) :* var 1 :+ :- ((var 2 :+ unit) :* var 0))) (var 1 :+ :- var 0) tt

      by : Dec (a ⊑ b) → a ⊑ b
      by (yes k) = k
      by (no f) =
          let d : 𝟘 ⊑ a ⊹ neg b = difference (O.le_total f) in
          let h' : (m ⊹ 𝟙) · a ⊑ (m ⊹ 𝟙) · b = rw nat_suc at h in
          let grown : 𝟘 ⊑ m · (a ⊹ neg b) = O.mul_nonneg (nat_nonneg n) d in
          of_difference (rewritten (add_mono grown (difference h')) (R.semiring.add_zero 𝟘) (shrunk a b m))

  pub cancel_eq : {a b : A} (n : ℕ) → 1 ≤ n → nat R.semiring n · a ≡ nat R.semiring n · b → a ≡ b
  cancel_eq n l e = O.le_antisymm (cancel_le n l (le_of_eq e)) (cancel_le n l (le_of_eq (sym e)))

  -- terms in order, sums in order
  pub sum_mono : (n : ℕ) {f g : ℕ → A} → ((i : ℕ) → i < n → f i ⊑ g i) → sum R.semiring n f ⊑ sum R.semiring n g
  sum_mono n {f} {g} h = sum_related ◌⊑◌ 𝟘 ◌⊹◌ 𝟘 ◌⊹◌ (O.le_refl 𝟘) (λ a c b d p q. add_mono p q) n f g h

  -- the integers keep their order: b is a and a natural number more
  pub int_mono : {a b : ℤ} → a ≤ℤ b → int R a ⊑ int R b
  int_mono {a} {b} h = rewritten (add_mono (O.le_refl (int R a)) (nat_nonneg rise)) (R.semiring.add_zero (int R a))
      (ap (λ (v : A). int R a ⊹ v) (sym (int_pos R rise)) ∙ sym (int_add R a (pos rise)) ∙ ap (int R) (sym risen))
    where
      rise : ℕ
      rise = up b + down a - (up a + down b)

      risen : b ≡ a +ℤ pos rise
      risen = omega (signed, split_add a (pos rise))

  pub nat_mono : {m n : ℕ} → m ≤ n → nat R.semiring m ⊑ nat R.semiring n
  nat_mono {m} {n} h = rewritten (int_mono (pos_mono h)) (int_pos R m) (int_pos R n)
