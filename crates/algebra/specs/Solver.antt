-- A solver for commutative rings. Expressions are brought to polynomials with integer coefficients; two expressions whose difference
-- comes to zero have one value in every ring. Negatives cancel, which `simp ring` does not see.
use Rattle.std.specs.Prelude.{◌≡◌, Bool, true, false, List, [], ◌∷◌, ℕ, T, leb, eqb, ℤ, pos, negsuc, ◌+ℤ◌, ◌*ℤ◌, get_or}
use Rattle.algebra.specs.Ring.{Ring, Number}

infixl 6 ◌:+◌
infixl 7 ◌:*◌
infix 8 :-◌
pub data Expr : Type 0 where
  var : ℕ → Expr
  null : Expr
  unit : Expr
  ◌:+◌ : Expr → Expr → Expr
  ◌:*◌ : Expr → Expr → Expr
  :-◌ : Expr → Expr

-- what an expression stands for: variable v is the number at place v of the list
abbrev pub eval : (R : Ring) → List (Number R) → Expr → Number R
eval R ρ (var v) = get_or ρ v R.semiring.𝟘
eval R ρ null = R.semiring.𝟘
eval R ρ unit = R.semiring.𝟙
eval R ρ (e :+ g) = R.semiring.◌⊹◌ (eval R ρ e) (eval R ρ g)
eval R ρ (e :* g) = R.semiring.◌·◌ (eval R ρ e) (eval R ρ g)
eval R ρ (:- e) = R.neg (eval R ρ e)

-- ---- polynomials: lists of terms, each a coefficient and its variables in order
pub data Term : Type 0 where
  term : ℤ → List ℕ → Term

abbrev pub insert : ℕ → List ℕ → List ℕ
insert v [] = v ∷ []
insert v (u ∷ m) = elim (leb v u) [ true ↦ v ∷ u ∷ m | false ↦ u ∷ insert v m ]

abbrev pub merge : List ℕ → List ℕ → List ℕ
merge [] n = n
merge (v ∷ m) n = insert v (merge m n)

abbrev pub same : List ℕ → List ℕ → Bool
same [] [] = true
same [] (v ∷ n) = false
same (u ∷ m) [] = false
same (u ∷ m) (v ∷ n) = elim (eqb u v) [ true ↦ same m n | false ↦ false ]

abbrev pub add_term : ℤ → List ℕ → List Term → List Term
add_term c m [] = term c m ∷ []
add_term c m (term d n ∷ p) = elim (same m n) [ true ↦ term (c +ℤ d) n ∷ p | false ↦ term d n ∷ add_term c m p ]

abbrev pub add_poly : List Term → List Term → List Term
add_poly [] q = q
add_poly (term c m ∷ p) q = add_term c m (add_poly p q)

abbrev pub mul_term : ℤ → List ℕ → List Term → List Term
mul_term c m [] = []
mul_term c m (term d n ∷ q) = add_term (c *ℤ d) (merge m n) (mul_term c m q)

abbrev pub mul_poly : List Term → List Term → List Term
mul_poly [] q = []
mul_poly (term c m ∷ p) q = add_poly (mul_term c m q) (mul_poly p q)

abbrev pub poly : Expr → List Term
poly (var v) = term (pos 1) (v ∷ []) ∷ []
poly null = []
poly unit = term (pos 1) [] ∷ []
poly (e :+ g) = add_poly (poly e) (poly g)
poly (e :* g) = mul_poly (poly e) (poly g)
poly (:- e) = mul_term (negsuc 0) [] (poly e)

abbrev pub is_zero : ℤ → Bool
is_zero (pos n) = eqb n 0
is_zero (negsuc n) = false

-- every coefficient is zero
abbrev pub vanishes : List Term → Bool
vanishes [] = true
vanishes (term c m ∷ p) = elim (is_zero c) [ true ↦ vanishes p | false ↦ false ]

-- ---- what the solver promises
abbrev pub Solves : Ring → Type 0
Solves R = (ρ : List (Number R)) (e g : Expr) → T (vanishes (poly (e :+ :- g))) → eval R ρ e ≡ eval R ρ g
