-- Finite sums, each law by induction on the number of terms.
use mathlib.Core.Path.{◌≡◌, refl, sym, ◌∙◌, ap, ap₂}
use Prim.Native.Nat.{ℕ, zero, suc, ◌-◌, ◌<◌, ◌≤◌, min, ◌+◌}
use native.Mathlib.Nat as NL
use native.Mathlib.Decide.{dec_le}
use native.Mathlib.Numerals.{add-one}
use native.Mathlib.Omega.{arith}
use Rattle.algebra.specs.Semiring.{Semiring}
use Rattle.algebra.specs.Sum.{accumulate, accumulate_back, sum, SumRelated, SumParts}
use Rattle.algebra.specs.Sum.{SumAdd, SumScale, SumExchange, SumShift, SumCut, SumDiagonals, SumTriangle}
use Rattle.algebra.proofs.Semiring.{ring}

pub sum_related : {A B : Type 0} → SumRelated A B
unfolding accumulate
sum_related Rel 𝟘 plus 𝟘' plus' none more zero f g h = none
sum_related Rel 𝟘 plus 𝟘' plus' none more (suc n) f g h =
    more (accumulate 𝟘 plus n f) (f n) (accumulate 𝟘' plus' n g) (g n)
    (sum_related Rel 𝟘 plus 𝟘' plus' none more n f g (λ i l. h i (omega arith))) (h n (omega arith))

pub accumulate_zero : {A : Type 0} (𝟘 : A) (plus : A → A → A) (f : ℕ → A) → accumulate 𝟘 plus 0 f ≡ 𝟘
unfolding accumulate
accumulate_zero 𝟘 plus f = refl

-- one term more, as a loop adds it
pub accumulate_next : {A : Type 0} (𝟘 : A) (plus : A → A → A) (n : ℕ) (f : ℕ → A)
    → plus (accumulate 𝟘 plus n f) (f n) ≡ accumulate 𝟘 plus (n + 1) f
unfolding accumulate
accumulate_next 𝟘 plus n f = ap (λ (m : ℕ). accumulate 𝟘 plus m f) (sym (add-one n))

-- a sum that starts at a, apart from a
pub accumulate_from : {A : Type 0} (𝟘 : A) (plus : A → A → A)
    → ((a b c : A) → plus (plus a b) c ≡ plus a (plus b c)) → ((a : A) → plus a 𝟘 ≡ a)
    → (a : A) (n : ℕ) (f : ℕ → A) → accumulate a plus n f ≡ plus a (accumulate 𝟘 plus n f)
unfolding accumulate
accumulate_from 𝟘 plus assoc unit a zero f = sym (unit a)
accumulate_from 𝟘 plus assoc unit a (suc n) f =
    ap (λ b. plus b (f n)) (accumulate_from 𝟘 plus assoc unit a n f) ∙ assoc a (accumulate 𝟘 plus n f) (f n)

-- one term after the other is taken over
pub sum_parts : {A : Type 0} → SumParts A
unfolding accumulate
sum_parts 𝟘 plus assoc comm unit s m zero f h = ap (λ (k : ℕ). accumulate s plus k f) (sym (NL.sub-zero m)) ∙ sym (unit _)
sum_parts 𝟘 plus assoc comm unit s m (suc n) f h =
    let next : m - n ≡ suc (m - suc n) = omega arith in
    let place : m - suc n ≡ m - (n + 1) = omega arith in
    let last = accumulate_back 𝟘 plus m n f in
    sum_parts 𝟘 plus assoc comm unit s m n f (omega arith)
    ∙ ap (λ (k : ℕ). plus (accumulate s plus k f) last) next
    ∙ assoc _ (f (m - suc n)) last
    ∙ ap (plus _) (comm (f (m - suc n)) last ∙ ap (λ (k : ℕ). plus last (f k)) place)

-- equal terms, equal sums; only the terms below n count
pub accumulate_cong : {A : Type 0} (𝟘 : A) (plus : A → A → A) (n : ℕ) {f g : ℕ → A} → ((i : ℕ) → i < n → f i ≡ g i)
    → accumulate 𝟘 plus n f ≡ accumulate 𝟘 plus n g
accumulate_cong 𝟘 plus n {f} {g} h = sum_related ◌≡◌ 𝟘 plus 𝟘 plus refl (λ a c b d p q. ap₂ plus p q) n f g h

module _ (R : Semiring) where
  open R use {carrier as A, 𝟘, ◌⊹◌, ◌·◌}

  infixl 6 ◌⊹◌
  infixl 7 ◌·◌
  pub sum_cong : (n : ℕ) {f g : ℕ → A} → ((i : ℕ) → i < n → f i ≡ g i) → sum R n f ≡ sum R n g
  sum_cong n h = accumulate_cong 𝟘 ◌⊹◌ n h

  pub sum_zero : (f : ℕ → A) → sum R 0 f ≡ 𝟘
  unfolding accumulate
  sum_zero f = refl

  pub sum_suc : (n : ℕ) (f : ℕ → A) → sum R (suc n) f ≡ sum R n f ⊹ f n
  unfolding accumulate
  sum_suc n f = refl

  pub sum_add : SumAdd R
  unfolding accumulate
  sum_add zero f g = sym (R.add_zero 𝟘)
  sum_add (suc n) f g = ap (λ (x : A). x ⊹ (f n ⊹ g n)) (sum_add n f g) ∙ simp ring

  pub sum_scale : SumScale R
  unfolding accumulate
  sum_scale zero a f = R.mul_zero a
  sum_scale (suc n) a f = R.mul_add a (sum R n f) (f n) ∙ ap (λ (x : A). x ⊹ a · f n) (sum_scale n a f)

  pub sum_scale_right : (n : ℕ) (a : A) (f : ℕ → A) → sum R n f · a ≡ sum R n (λ i. f i · a)
  sum_scale_right n a f = R.mul_comm (sum R n f) a ∙ sum_scale n a f ∙ sum_cong n (λ i l. R.mul_comm a (f i))

  pub sum_vanishes : (n : ℕ) (f : ℕ → A) → ((i : ℕ) → i < n → f i ≡ 𝟘) → sum R n f ≡ 𝟘
  unfolding accumulate
  sum_vanishes zero f h = refl
  sum_vanishes (suc n) f h = ap₂ ◌⊹◌ (sum_vanishes n f (λ i l. h i (omega arith))) (h n (omega arith)) ∙ R.add_zero 𝟘

  pub sum_exchange : SumExchange R
  unfolding accumulate
  sum_exchange zero n F = sym (sum_vanishes n (λ j. 𝟘) (λ j l. refl))
  sum_exchange (suc m) n F = ap (λ (x : A). x ⊹ sum R n (λ j. F m j)) (sum_exchange m n F)
      ∙ sym (sum_add n (λ j. sum R m (λ i. F i j)) (λ j. F m j))

  pub sum_shift : SumShift R
  unfolding accumulate
  sum_shift zero f = R.add_comm 𝟘 (f 0)
  sum_shift (suc n) f = ap (λ (x : A). x ⊹ f (suc n)) (sum_shift n f)
      ∙ R.add_assoc (f 0) (sum R n (λ i. f (suc i))) (f (suc n))

  -- d terms more add nothing, where they are zero
  pub sum_extend : (m d : ℕ) (f : ℕ → A) → ((i : ℕ) → m ≤ i → f i ≡ 𝟘) → sum R (d + m) f ≡ sum R m f
  sum_extend m zero f h = rw NL.zero-add
  sum_extend m (suc d) f h = rw (NL.suc-add, sum_suc, h (d + m) (omega arith), R.add_zero) (sum_extend m d f h)

  pub sum_cut : SumCut R
  sum_cut n m f h = by (dec_le n m)
    where
      apart : ¬ (n ≤ m) → n ≡ (n - m) + m
      apart l = omega arith

      by : Dec (n ≤ m) → sum R n f ≡ sum R (min n m) f
      by (yes l) = ap (λ (k : ℕ). sum R k f) (sym (NL.min-eq_left l))
      by (no l) = ap (λ (k : ℕ). sum R k f) (apart l) ∙ sum_extend m (n - m) f h ∙ ap (λ (k : ℕ). sum R k f) (omega arith)

  -- last term first
  sum_reverse : (n : ℕ) (f : ℕ → A) → sum R n f ≡ sum R n (λ i. f (n - (i + 1)))
  sum_reverse n f = sum_parts 𝟘 ◌⊹◌ R.add_assoc R.add_comm R.add_zero 𝟘 n n f (NL.le_refl n)
      ∙ ap (λ (k : ℕ). sum R k f ⊹ sum R n (λ i. f (n - (i + 1)))) (NL.sub_self n)
      ∙ ap (λ (x : A). x ⊹ sum R n (λ i. f (n - (i + 1)))) (sum_zero f)
      ∙ R.add_comm 𝟘 _ ∙ R.add_zero _

  -- a triangle of side n + 1 is one of side n and one diagonal more
  pub sum_diagonals : SumDiagonals R
  sum_diagonals zero F = sum_zero (λ y. sum R (0 - suc y) (λ z. F y z)) ∙ sym (sum_zero (λ u. sum R u (λ y. F y (u - suc y))))
  sum_diagonals (suc n) F =
      sum_suc n (λ y. sum R (suc n - suc y) (λ z. F y z))
      ∙ ap₂ ◌⊹◌ (sum_cong n longer ∙ sum_add n (λ y. sum R (n - suc y) (λ z. F y z)) (λ y. F y (n - suc y)))
      (ap (λ (k : ℕ). sum R k (λ z. F n z)) none ∙ sum_zero (λ z. F n z))
      ∙ R.add_zero _
      ∙ ap (λ (x : A). x ⊹ sum R n (λ y. F y (n - suc y))) (sum_diagonals n F)
      ∙ sym (sum_suc n (λ u. sum R u (λ y. F y (u - suc y))))
    where
      step : (y : ℕ) → y < n → suc n - suc y ≡ suc (n - suc y)
      step y l = omega arith

      none : suc n - suc n ≡ 0
      none = omega arith

      longer : (y : ℕ) → y < n → sum R (suc n - suc y) (λ z. F y z) ≡ sum R (n - suc y) (λ z. F y z) ⊹ F y (n - suc y)
      longer y l = ap (λ (k : ℕ). sum R k (λ z. F y z)) (step y l) ∙ sum_suc (n - suc y) (λ z. F y z)

  -- a diagonal reads the same from both ends
  pub sum_triangle : SumTriangle R
  sum_triangle n F = sum_diagonals n F ∙ sum_cong n (λ u l. turned u) ∙ sym (sum_diagonals n (λ z y. F y z))
    where
      turned : (u : ℕ) → sum R u (λ y. F y (u - suc y)) ≡ sum R u (λ z. F (u - suc z) z)
      turned u = sum_reverse u (λ y. F y (u - suc y)) ∙ sum_cong u (λ z l. ap₂ F (omega arith) (omega arith))
