-- Limits of the paper that several crates name, each once, and the tests of a limit.
use Rattle.std.specs.Prelude.{Bool, ◌||◌, ℕ, ◌+◌, ltb, ℤ, nat_abs}

-- U, the paper's "unit", which stands for chance 1
abbrev pub unit : ℕ
unit = 1000000000

-- "Order k, 1 to 4."
abbrev pub most_order : ℕ
most_order = 4

-- "m from 1 to 500"
abbrev pub most_severities : ℕ
most_severities = 500

-- "Last total X, 0 to 500."
abbrev pub most_last : ℕ
most_last = 500

-- the totals 0 to X, at most
abbrev pub most_totals : ℕ
most_totals = most_last + 1

-- n is not from least to most
abbrev pub outside : ℕ → ℕ → ℕ → Bool
outside least most n = ltb n least || ltb most n

-- z lies outside -limit to limit
abbrev pub beyond : ℕ → ℤ → Bool
beyond limit z = ltb limit (nat_abs z)
