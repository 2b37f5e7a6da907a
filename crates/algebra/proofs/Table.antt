-- A test that passes at every row passes at any row, by the row's place in the table; tests of equality, by cases on what they compare.
use mathlib.Core.Path.{◌≡◌, refl, sym, ap, subst}
use mathlib.Core.Bool.{Bool, true, false, ◌&&◌, and-eq-true_iff}
use mathlib.Core.List.Memᴰ
use mathlib.Core.List.{List, [], ◌∷◌, ◌++◌}
use mathlib.Core.Logic.{⊎_elim}
use lib.Dec.{T, eqb→eq}
use lib.IntN.{pos, negsuc}
use Rattle.algebra.specs.Table.{every, EachPasses, SameInteger, same_list, SameList}

pub and_left : (a b : Bool) → T (a && b) → T a
and_left true b t = tt
and_left false b t = absurd t

pub and_right : (a b : Bool) → T (a && b) → T b
and_right true b t = t
and_right false b t = absurd t

pub each_passes : (A : Type 0) → EachPasses A
each_passes A test [] t c m = absurd (Memᴰ.not-nil m)
each_passes A test (d ∷ ds) t c m = ⊎_elim
    (λ e. subst (λ x. T (test x)) (sym e) (and_left (test d) (every test ds) t))
    (λ k. each_passes A test ds (and_right (test d) (every test ds) t) c k)
    (Memᴰ.cases_cons m)

pub every_append : (A : Type 0) (test : A → Bool) (s t : List A) → every test s ≡ true → every test t ≡ true → every test (s ++ t) ≡ true
every_append A test [] t e h = h
every_append A test (x ∷ s) t e h =
    let k = (and-eq-true_iff (test x) (every test s)).0 e in
    rw k.0 (every_append A test s t k.1 h)

pub same_integer_lem : SameInteger
same_integer_lem (pos m) (pos n) t = ap pos (eqb→eq m n t)
same_integer_lem (pos m) (negsuc n) t = absurd t
same_integer_lem (negsuc m) (pos n) t = absurd t
same_integer_lem (negsuc m) (negsuc n) t = ap negsuc (eqb→eq m n t)

pub same_list_lem : (A : Type 0) → SameList A
same_list_lem A same equates [] [] t = refl
same_list_lem A same equates [] (y ∷ ys) t = absurd t
same_list_lem A same equates (x ∷ xs) [] t = absurd t
same_list_lem A same equates (x ∷ xs) (y ∷ ys) t =
    λ i. equates x y (and_left (same x y) (same_list same xs ys) t) i
    ∷ same_list_lem A same equates xs ys (and_right (same x y) (same_list same xs ys) t) i

-- a list is the same as itself
pub same_itself : (A : Type 0) (same : A → A → Bool) → ((x : A) → same x x ≡ true) → (l : List A) → same_list same l l ≡ true
same_itself A same itself [] = refl
same_itself A same itself (x ∷ l) = rw (itself x) (same_itself A same itself l)
