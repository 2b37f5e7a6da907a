-- The solver is right: each step of bringing an expression to a polynomial keeps its value.
use mathlib.Core.Path.{◌≡◌, refl, sym, ◌∙◌, ap, ap₂}
use mathlib.Core.Bool.{Bool, true, false}
use mathlib.Core.List.{List, [], ◌∷◌}
use Prim.Native.Nat.{ℕ}
use lib.Dec.{T, leb, eqb, eqb→eq}
use lib.IntN.{ℤ, pos, negsuc, ◌+ℤ◌, ◌*ℤ◌}
use lib.ListN.{get_or}
use Rattle.algebra.specs.Semiring.{Semiring}
use Rattle.algebra.specs.Ring.{Ring, Number, int}
use Rattle.algebra.specs.Solver.{Expr, var, null, unit, ◌:+◌, ◌:*◌, :-◌, eval, Solves}
use Rattle.algebra.specs.Solver.{Term, term, insert, merge, same, add_term, add_poly, mul_term, mul_poly, poly, is_zero, vanishes}
use Rattle.algebra.proofs.Semiring.{ring, ring_units, zero_add, zero_mul, one_mul, mul_left_comm, add_mul, nat_zero, nat_one}
use Rattle.algebra.proofs.Ring.{neg_unique, neg_neg, neg_mul, int_pos, int_neg, int_add, int_mul}

same_tails : {u v : ℕ} {m n : List ℕ} (c : Bool) → (T c → u ≡ v) → (T (same m n) → m ≡ n)
    → T (elim c [ true ↦ same m n | false ↦ false ]) → u ∷ m ≡ v ∷ n
same_tails true h k t = ap₂ ◌∷◌ (h tt) (k t)
same_tails false h k t = absurd t

same_sound : (m n : List ℕ) → T (same m n) → m ≡ n
same_sound [] [] t = refl
same_sound [] (v ∷ n) t = absurd t
same_sound (u ∷ m) [] t = absurd t
same_sound (u ∷ m) (v ∷ n) t = same_tails (eqb u v) (λ s. eqb→eq u v s) (λ s. same_sound m n s) t

is_zero_sound : (c : ℤ) → T (is_zero c) → c ≡ pos 0
is_zero_sound (pos n) t = ap pos (eqb→eq n 0 t)
is_zero_sound (negsuc n) t = absurd t

module _ (R : Ring) (ρ : List (Number R)) where
  open R.semiring use {carrier as A, 𝟘, 𝟙, ◌⊹◌, ◌·◌}
  open R use {neg}

  infixl 6 ◌⊹◌
  infixl 7 ◌·◌
  abbrev S : Semiring
  S = R.semiring

  abbrev value : ℕ → A
  value v = get_or ρ v 𝟘

  monomial : List ℕ → A
  monomial [] = 𝟙
  monomial (v ∷ m) = value v · monomial m

  polynomial : List Term → A
  polynomial [] = 𝟘
  polynomial (term c m ∷ p) = int R c · monomial m ⊹ polynomial p

  insert_by : (c : Bool) (v u : ℕ) (m w : List ℕ) → monomial w ≡ value v · monomial m
      → monomial (elim c [ true ↦ v ∷ u ∷ m | false ↦ u ∷ w ]) ≡ value v · (value u · monomial m)
  unfolding monomial
  insert_by true v u m w e = refl
  insert_by false v u m w e = ap (λ (x : A). value u · x) e ∙ mul_left_comm S (value u) (value v) (monomial m)

  insert_sound : (v : ℕ) (m : List ℕ) → monomial (insert v m) ≡ value v · monomial m
  unfolding monomial
  insert_sound v [] = refl
  insert_sound v (u ∷ m) = insert_by (leb v u) v u m (insert v m) (insert_sound v m)

  merge_sound : (m n : List ℕ) → monomial (merge m n) ≡ monomial m · monomial n
  unfolding monomial
  merge_sound [] n = sym (one_mul S (monomial n))
  merge_sound (v ∷ m) n = insert_sound v (merge m n) ∙ ap (λ (x : A). value v · x) (merge_sound m n)
      ∙ sym (S.mul_assoc (value v) (monomial m) (monomial n))

  add_term_by : (b : Bool) (c d : ℤ) (m n : List ℕ) (p q : List Term) → (T b → m ≡ n) → polynomial q ≡ int R c · monomial m ⊹ polynomial p
      → polynomial (elim b [ true ↦ term (c +ℤ d) n ∷ p | false ↦ term d n ∷ q ])
      ≡ int R c · monomial m ⊹ (int R d · monomial n ⊹ polynomial p)
  unfolding polynomial
  add_term_by true c d m n p q h e =
      ap (λ (x : A). x · monomial n ⊹ polynomial p) (int_add R c d) ∙ together (int R c) (int R d) (monomial n) (polynomial p)
      ∙ ap (λ (l : List ℕ). int R c · monomial l ⊹ (int R d · monomial n ⊹ polynomial p)) (sym (h tt))
    where
      together : (a b u v : A) → (a ⊹ b) · u ⊹ v ≡ a · u ⊹ (b · u ⊹ v)
      together a b u v = ap (λ (x : A). x ⊹ v) (add_mul S a b u) ∙ S.add_assoc (a · u) (b · u) v
  add_term_by false c d m n p q h e =
      ap (λ (x : A). int R d · monomial n ⊹ x) e ∙ swap (int R d · monomial n) (int R c · monomial m) (polynomial p)
    where
      swap : (a b u : A) → a ⊹ (b ⊹ u) ≡ b ⊹ (a ⊹ u)
      swap a b u = simp ring

  add_term_sound : (c : ℤ) (m : List ℕ) (p : List Term) → polynomial (add_term c m p) ≡ int R c · monomial m ⊹ polynomial p
  unfolding polynomial
  add_term_sound c m [] = refl
  add_term_sound c m (term d n ∷ p) = add_term_by (same m n) c d m n p (add_term c m p) (λ t. same_sound m n t) (add_term_sound c m p)

  add_poly_sound : (p q : List Term) → polynomial (add_poly p q) ≡ polynomial p ⊹ polynomial q
  unfolding polynomial
  add_poly_sound [] q = sym (zero_add S (polynomial q))
  add_poly_sound (term c m ∷ p) q = add_term_sound c m (add_poly p q) ∙ ap (λ (x : A). int R c · monomial m ⊹ x) (add_poly_sound p q)
      ∙ sym (S.add_assoc (int R c · monomial m) (polynomial p) (polynomial q))

  mul_term_sound : (c : ℤ) (m : List ℕ) (q : List Term) → polynomial (mul_term c m q) ≡ int R c · monomial m · polynomial q
  unfolding polynomial
  mul_term_sound c m [] = sym (S.mul_zero (int R c · monomial m))
  mul_term_sound c m (term d n ∷ q) =
      add_term_sound (c *ℤ d) (merge m n) (mul_term c m q)
      ∙ ap₂ ◌⊹◌ (ap₂ ◌·◌ (int_mul R c d) (merge_sound m n)) (mul_term_sound c m q)
      ∙ out (int R c) (monomial m) (int R d) (monomial n) (polynomial q)
    where
      out : (a u b v t : A) → a · b · (u · v) ⊹ a · u · t ≡ a · u · (b · v ⊹ t)
      out a u b v t = simp ring

  mul_poly_sound : (p q : List Term) → polynomial (mul_poly p q) ≡ polynomial p · polynomial q
  unfolding polynomial
  mul_poly_sound [] q = sym (zero_mul S (polynomial q))
  mul_poly_sound (term c m ∷ p) q = add_poly_sound (mul_term c m q) (mul_poly p q) ∙ ap₂ ◌⊹◌ (mul_term_sound c m q) (mul_poly_sound p q)
      ∙ sym (add_mul S (int R c · monomial m) (polynomial p) (polynomial q))

  minus_one : (a : A) → int R (negsuc 0) · 𝟙 · a ≡ neg a
  minus_one a = ap (λ (x : A). x · 𝟙 · a) (int_neg R (pos 1) ∙ ap neg (int_pos R 1 ∙ nat_one S))
      ∙ ap (λ (x : A). x · a) (S.mul_one (neg 𝟙)) ∙ neg_mul R 𝟙 a ∙ ap neg (one_mul S a)

  poly_sound : (e : Expr) → polynomial (poly e) ≡ eval R ρ e
  unfolding polynomial monomial
  poly_sound (var v) = ap (λ (x : A). x · (value v · 𝟙) ⊹ 𝟘) (int_pos R 1 ∙ nat_one S) ∙ simp ring_units
  poly_sound null = refl
  poly_sound unit = ap (λ (x : A). x · 𝟙 ⊹ 𝟘) (int_pos R 1 ∙ nat_one S) ∙ simp ring_units
  poly_sound (e :+ g) = add_poly_sound (poly e) (poly g) ∙ ap₂ ◌⊹◌ (poly_sound e) (poly_sound g)
  poly_sound (e :* g) = mul_poly_sound (poly e) (poly g) ∙ ap₂ ◌·◌ (poly_sound e) (poly_sound g)
  poly_sound (:- e) = mul_term_sound (negsuc 0) [] (poly e) ∙ minus_one (polynomial (poly e)) ∙ ap neg (poly_sound e)

  vanishes_by : (b : Bool) (c : ℤ) (m : List ℕ) (p : List Term) → (T b → c ≡ pos 0) → (T (vanishes p) → polynomial p ≡ 𝟘)
      → T (elim b [ true ↦ vanishes p | false ↦ false ]) → int R c · monomial m ⊹ polynomial p ≡ 𝟘
  vanishes_by true c m p h k t = ap₂ (λ (x : ℤ) (y : A). int R x · monomial m ⊹ y) (h tt) (k t)
      ∙ ap (λ (x : A). x · monomial m ⊹ 𝟘) (int_pos R 0 ∙ nat_zero S) ∙ simp ring_units
  vanishes_by false c m p h k t = absurd t

  vanishes_sound : (p : List Term) → T (vanishes p) → polynomial p ≡ 𝟘
  unfolding polynomial
  vanishes_sound [] t = refl
  vanishes_sound (term c m ∷ p) t = vanishes_by (is_zero c) c m p (λ s. is_zero_sound c s) (λ s. vanishes_sound p s) t

pub solve : (R : Ring) → Solves R
solve R ρ e g t =
    neg_unique R (R.neg (eval R ρ g)) (eval R ρ e) (sym (poly_sound R ρ (e :+ :- g)) ∙ vanishes_sound R ρ (poly (e :+ :- g)) t)
    ∙ neg_neg R (eval R ρ g)
