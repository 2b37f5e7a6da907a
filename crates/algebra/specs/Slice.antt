-- Lent slices as lists: what a loop still has to read, and rows that are written from the front.
use Rattle.std.specs.Prelude.{◌≡◌, List, [], ◌∷◌, ◌++◌, ℕ, zero, suc, ◌+◌, ◌-◌, ◌≤◌, ◌<◌, length, get_or, set, take, drop}

-- f 0, f 1, .., f (n - 1)
unfoldable pub listed : {A : Type 0} → (ℕ → A) → ℕ → List A
listed f zero = []
listed f (suc n) = listed f n ++ (f n ∷ [])

-- the row after `front` was written over its first places; the later places keep what they held
abbrev pub written : {A : Type 0} → List A → List A → List A
written front row = front ++ drop (length front) row

module _ (A : Type 0) where
  -- what a loop has before it at i: the element there, and what it has before it at i + 1
  abbrev pub DropNext : Type 0
  DropNext = (l : List A) (i : ℕ) (d : A) → i < length l → drop i l ≡ get_or l i d ∷ drop (i + 1) l

  -- a list from i on, after v was stored there
  abbrev pub DropSet : Type 0
  DropSet = (l : List A) (i : ℕ) (v : A) → i < length l → drop i (set l i v) ≡ v ∷ drop (suc i) l

  -- the part from a to the end is the list from a on
  abbrev pub PartToEnd : Type 0
  PartToEnd = (l : List A) (a : ℕ) → take (length l - a) (drop a l) ≡ drop a l

  abbrev pub ListedLength : Type 0
  ListedLength = (f : ℕ → A) (n : ℕ) → length (listed f n) ≡ n

  abbrev pub ListedAt : Type 0
  ListedAt = (f : ℕ → A) (n i : ℕ) (d : A) → i < n → get_or (listed f n) i d ≡ f i

  abbrev pub WrittenLength : Type 0
  WrittenLength = (front row : List A) → length front ≤ length row → length (written front row) ≡ length row

  -- one place more
  abbrev pub WrittenNext : Type 0
  WrittenNext = (front row : List A) (v : A) → length front < length row
      → set (written front row) (length front) v ≡ written (front ++ (v ∷ [])) row

  -- f 0, .., f (n - 1) over the first places of a row: its length stays, and f n comes to the next place
  abbrev pub ListedKept : Type 0
  ListedKept = (f : ℕ → A) (n : ℕ) (row : List A) → n ≤ length row → length (written (listed f n) row) ≡ length row

  abbrev pub ListedNext : Type 0
  ListedNext = (f : ℕ → A) (n : ℕ) (row : List A) → n < length row
      → set (written (listed f n) row) n (f n) ≡ written (listed f (n + 1)) row
