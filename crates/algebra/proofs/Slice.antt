-- Laws of lent slices, from the kit's laws of `++`, `take` and `drop`, which move the seam between two parts of a list.
use mathlib.Core.Path.{◌≡◌, refl, sym, ◌∙◌, ap}
use mathlib.Core.List.{List, [], ◌∷◌, ◌++◌, append_assoc}
use mathlib.Core.Logic.{◌⊎◌, inl, inr}
use Prim.Native.Nat.{ℕ, zero, suc, ◌-◌, ◌<◌}
use native.Mathlib.Nat as NL
use native.Mathlib.Numerals.{add-one}
use native.Mathlib.Omega.{arith}
use lib.ListN.{length, set, get_or, drop, length-append, length-drop, get_or-append}
use lib.Seq.{get_or_at, take_all, drop-cons, set-append_seam}
use Rattle.algebra.specs.Slice.{listed, written, DropNext, DropSet, PartToEnd, ListedLength, ListedAt}
use Rattle.algebra.specs.Slice.{WrittenLength, WrittenNext, ListedKept, ListedNext}

module _ {A : Type 0} where
  pub drop_next : DropNext A
  drop_next l i d h = drop-cons l i d h ∙ ap (λ (k : ℕ). get_or l i d ∷ drop k l) (sym (add-one i))

  pub drop_set : DropSet A
  drop_set [] i v h = absurd (NL.not-suc-le-zero h)
  drop_set (x ∷ l) zero v h = refl
  drop_set (x ∷ l) (suc i) v h = drop_set l i v (NL.le_of_suc-le-suc h)

  pub part_to_end : PartToEnd A
  part_to_end l a = take_all (length l - a) (drop a l) (simp length-drop (omega arith))

  pub listed_length : ListedLength A
  unfolding listed
  listed_length f zero = refl
  listed_length f (suc n) = simp length-append (omega (arith, listed_length f n))

  pub listed_at : ListedAt A
  unfolding listed
  listed_at f zero i d h = absurd (NL.not-suc-le-zero h)
  listed_at f (suc n) i d h = by (listed_at f n i d) (NL.eq-or-lt_of_le (NL.le_of_suc-le-suc h))
    where
      by : (i < n → get_or (listed f n) i d ≡ f i) → (i ≡ n) ⊎ (i < n) → get_or (listed f n ++ (f n ∷ [])) i d ≡ f i
      by earlier (inl e) = get_or_at (listed f n) (f n) [] d i (listed_length f n ∙ sym e) ∙ ap f (sym e)
      by earlier (inr l) = get_or-append (listed f n) (f n ∷ []) d i (omega (arith, listed_length f n)) ∙ earlier l

  pub written_length : WrittenLength A
  written_length front row h = simp (length-append, length-drop) (omega arith)

  pub written_next : WrittenNext A
  written_next front row v h =
      ap (λ (l : List A). set (front ++ l) (length front) v) (drop-cons row (length front) v h)
      ∙ set-append_seam front (get_or row (length front) v) (drop (suc (length front)) row) v
      ∙ sym (append_assoc front (v ∷ []) (drop (suc (length front)) row))
      ∙ ap (λ (k : ℕ). (front ++ (v ∷ [])) ++ drop k row) (sym one_more)
    where
      one_more : length (front ++ (v ∷ [])) ≡ suc (length front)
      one_more = simp length-append (omega arith)

  pub listed_kept : ListedKept A
  listed_kept f n row h = written_length (listed f n) row (rw (listed_length f n) h)

  pub listed_next : ListedNext A
  unfolding listed
  listed_next f n row h =
      ap (λ (k : ℕ). set (written (listed f n) row) k (f n)) (sym (listed_length f n))
      ∙ written_next (listed f n) row (f n) (rw (listed_length f n) h)
      ∙ ap (λ (k : ℕ). written (listed f k) row) (sym (add-one n))
