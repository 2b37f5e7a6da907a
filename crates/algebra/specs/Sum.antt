-- Finite sums: the definition, for any zero and any plus, and what sums over a commutative semiring obey.
use Rattle.std.specs.Prelude.{◌≡◌, Bool, true, ◌&&◌, ℕ, zero, suc, ◌-◌, ◌≤◌, ◌<◌, min, ◌+◌, ℤ, pos, ◌+ℤ◌}
use Rattle.algebra.specs.Semiring.{Semiring}

-- f 0 + f 1 + .. + f (n - 1), from the left
unfoldable pub accumulate : {A : Type 0} → A → (A → A → A) → ℕ → (ℕ → A) → A
accumulate 𝟘 plus zero f = 𝟘
accumulate 𝟘 plus (suc n) f = plus (accumulate 𝟘 plus n f) (f n)

-- of the first m terms the last n, from the last on: f (m - 1) + f (m - 2) + .. + f (m - n)
abbrev pub accumulate_back : {A : Type 0} → A → (A → A → A) → ℕ → ℕ → (ℕ → A) → A
accumulate_back 𝟘 plus m n f = accumulate 𝟘 plus n (λ i. f (m - (i + 1)))

abbrev pub sum : (R : Semiring) → ℕ → (ℕ → R.carrier) → R.carrier
sum R = accumulate R.𝟘 R.◌⊹◌

abbrev pub sumℕ : ℕ → (ℕ → ℕ) → ℕ
sumℕ = accumulate 0 ◌+◌

abbrev pub sumℤ : ℕ → (ℕ → ℤ) → ℤ
sumℤ = accumulate (pos 0) ◌+ℤ◌

-- f 0, f 1, .. and f (n - 1) hold
abbrev pub all_of : ℕ → (ℕ → Bool) → Bool
all_of = accumulate true ◌&&◌

-- terms that are related have related sums: congruence, order, homomorphisms and sizes are instances
abbrev pub SumRelated : Type 0 → Type 0 → Type 1
SumRelated A B = (Rel : A → B → Type 0) (𝟘 : A) (plus : A → A → A) (𝟘' : B) (plus' : B → B → B)
    → Rel 𝟘 𝟘' → ((a c : A) (b d : B) → Rel a b → Rel c d → Rel (plus a c) (plus' b d))
    → (n : ℕ) (f : ℕ → A) (g : ℕ → B) → ((i : ℕ) → i < n → Rel (f i) (g i))
    → Rel (accumulate 𝟘 plus n f) (accumulate 𝟘' plus' n g)

-- a sum that starts at s, its last n terms apart, where the order of adding does not matter
abbrev pub SumParts : Type 0 → Type 0
SumParts A = (𝟘 : A) (plus : A → A → A) → ((a b c : A) → plus (plus a b) c ≡ plus a (plus b c)) → ((a b : A) → plus a b ≡ plus b a)
    → ((a : A) → plus a 𝟘 ≡ a) → (s : A) (m n : ℕ) (f : ℕ → A) → n ≤ m
    → accumulate s plus m f ≡ plus (accumulate s plus (m - n) f) (accumulate_back 𝟘 plus m n f)

module _ (R : Semiring) where
  open R use {carrier as A, 𝟘, ◌⊹◌, ◌·◌}

  infixl 6 ◌⊹◌
  infixl 7 ◌·◌
  -- a sum of sums
  abbrev pub SumAdd : Type 0
  SumAdd = (n : ℕ) (f g : ℕ → A) → sum R n (λ i. f i ⊹ g i) ≡ sum R n f ⊹ sum R n g

  -- a common factor
  abbrev pub SumScale : Type 0
  SumScale = (n : ℕ) (a : A) (f : ℕ → A) → a · sum R n f ≡ sum R n (λ i. a · f i)

  -- two sums change places
  abbrev pub SumExchange : Type 0
  SumExchange = (m n : ℕ) (F : ℕ → ℕ → A) → sum R m (λ i. sum R n (λ j. F i j)) ≡ sum R n (λ j. sum R m (λ i. F i j))

  -- the first term apart, and the others moved up by one
  abbrev pub SumShift : Type 0
  SumShift = (n : ℕ) (f : ℕ → A) → sum R (suc n) f ≡ f 0 ⊹ sum R n (λ i. f (suc i))

  -- of n terms only the first m count, where the others are zero
  abbrev pub SumCut : Type 0
  SumCut = (n m : ℕ) (f : ℕ → A) → ((i : ℕ) → m ≤ i → f i ≡ 𝟘) → sum R n f ≡ sum R (min n m) f

  -- over the triangle of all y and z with y + z + 1 < n: by rows, and by diagonals
  abbrev pub SumDiagonals : Type 0
  SumDiagonals = (n : ℕ) (F : ℕ → ℕ → A)
      → sum R n (λ y. sum R (n - suc y) (λ z. F y z)) ≡ sum R n (λ u. sum R u (λ y. F y (u - suc y)))

  -- and by rows, and by columns
  abbrev pub SumTriangle : Type 0
  SumTriangle = (n : ℕ) (F : ℕ → ℕ → A)
      → sum R n (λ y. sum R (n - suc y) (λ z. F y z)) ≡ sum R n (λ z. sum R (n - suc z) (λ y. F y z))
