-- Rows that are made total by total: a rule tells what row j has at total x, from what the rows have at earlier totals.
use Rattle.std.specs.Prelude.{◌≡◌, List, [], ◌∷◌, ◌++◌, ℕ, zero, suc, ◌<◌, get_or}
use Rattle.algebra.specs.Slice.{listed}

-- row j at total z
abbrev pub Grid : Type 0 → Type 0
Grid A = ℕ → ℕ → A

-- what is listed total by total, and at each total row by row
abbrev pub recorded : {A : Type 0} → A → List (List A) → Grid A
recorded none totals j z = get_or (get_or totals z []) j none

-- two grids that agree in the rows below `order` at the totals below x
abbrev pub Agree : {A : Type 0} → ℕ → Grid A → Grid A → ℕ → Type 0
Agree order grid grid' x = (j z : ℕ) → j < order → z < x → grid j z ≡ grid' j z

module _ {A : Type 0} (none : A) (order : ℕ) (rule : Grid A → Grid A) where
  -- the rows below `order` at the totals 0 to n, from those at the totals 0 to n - 1
  unfoldable pub with_next : List (List A) → ℕ → List (List A)
  with_next totals n = totals ++ (listed (λ j. rule (recorded none totals) j n) order ∷ [])

  -- at the totals 0 to n - 1
  unfoldable pub history : ℕ → List (List A)
  history zero = []
  history (suc n) = with_next (history n) n

  unfoldable pub tabled : Grid A
  tabled j x = recorded none (history (suc x)) j x

  -- the rule reads nothing but the rows below `order` at earlier totals
  abbrev pub Local : Type 0
  Local = (grid grid' : Grid A) (j x : ℕ) → j < order → Agree order grid grid' x → rule grid j x ≡ rule grid' j x

  -- then the rows follow it
  abbrev pub TabledRule : Type 0
  TabledRule = Local → (j x : ℕ) → j < order → tabled j x ≡ rule tabled j x
