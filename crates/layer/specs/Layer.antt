-- One layer, "between an attachment c and a limit d": what it saves and what it pays at a total, and its cost by the entries of a row. The
-- limit is the paper's, the total at which the layer ends; other texts call the width d - c so.
use Rattle.std.specs.Prelude.{◌≡◌, cond, List, ℕ, ◌*◌, ◌-◌, ◌≤◌, ◌<◌, min, ltb, ℤ, pos, ◌+ℤ◌, ◌-ℤ◌, ◌*ℤ◌, get_or}
use Rattle.algebra.specs.Sum.{sumℤ}
use Rattle.model.specs.Limits.{unit}

-- "At a total x the layer saves d - c when x is below c, d - x from c to d, and 0 beyond"
unfoldable pub saving : (c d x : ℕ) → ℕ
saving c d x = cond (ltb x c) (d - c) (cond (ltb d x) 0 (d - x))

-- "it pays the rest of d - c"
unfoldable pub payment : (c d x : ℕ) → ℕ
payment c d x = (d - c) - saving c d x

-- so it pays nothing up to c, what a total has above c from there to d, and d - c beyond
abbrev pub PaysAbove : Type 0
PaysAbove = (c d x : ℕ) → c < d → payment c d x ≡ min x d - min x c

-- "(d - c) times U less the sum of saving times" entry "over x below d"
unfoldable pub cost_by : List ℤ → (c d : ℕ) → ℤ
cost_by row c d = pos ((d - c) * unit) -ℤ sumℤ d (λ x. pos (saving c d x) *ℤ get_or row x (pos 0))

-- layers that follow each other add up
abbrev pub LayersAddUp : Type 0
LayersAddUp = (row : List ℤ) (c d e : ℕ) → c ≤ d → d ≤ e → cost_by row c d +ℤ cost_by row d e ≡ cost_by row c e
