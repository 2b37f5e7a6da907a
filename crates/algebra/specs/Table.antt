-- Tests over lists: each element passes, two are the same; and claims over a table of cases, by one test that the checker computes over the
-- whole table.
use Rattle.std.specs.Prelude.{◌≡◌, Bool, true, false, ◌&&◌, T, eqb, ℤ, pos, negsuc}
use mathlib.Core.List.{List, [], ◌∷◌, Memᴰ}

-- the test passes at each element
abbrev pub every : {A : Type 0} → (A → Bool) → List A → Bool
every test [] = true
every test (c ∷ cs) = test c && every test cs

-- then it passes at any that the list has
abbrev pub EachPasses : Type 0 → Type 0
EachPasses A = (test : A → Bool) (table : List A) → T (every test table) → (c : A) → Memᴰ c table → T (test c)

-- ---- tests of equality
-- two that the test takes for the same are equal
abbrev pub Equates : (A : Type 0) → (A → A → Bool) → Type 0
Equates A same = (x y : A) → T (same x y) → x ≡ y

abbrev pub same_integer : ℤ → ℤ → Bool
same_integer (pos m) (pos n) = eqb m n
same_integer (pos m) (negsuc n) = false
same_integer (negsuc m) (pos n) = false
same_integer (negsuc m) (negsuc n) = eqb m n

abbrev pub SameInteger : Type 0
SameInteger = Equates ℤ same_integer

-- lists, by a test of their elements
abbrev pub same_list : {A : Type 0} → (A → A → Bool) → List A → List A → Bool
same_list same [] [] = true
same_list same [] (y ∷ ys) = false
same_list same (x ∷ xs) [] = false
same_list same (x ∷ xs) (y ∷ ys) = same x y && same_list same xs ys

abbrev pub SameList : Type 0 → Type 0
SameList A = (same : A → A → Bool) → Equates A same → Equates (List A) (same_list same)
