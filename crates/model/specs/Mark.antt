-- Marks, by which a row tells of each entry whether it is exact.
use Rattle.std.specs.Prelude.{Bool, cond, ℤ, pos}
use Rattle.std.specs.Int.Signed.{lt_z}

-- "1 for exact and 0 otherwise"
abbrev pub mark_of : Bool → ℤ
mark_of exact = cond exact (pos 1) (pos 0)

-- what a mark says; the calls read no mark but such as they wrote
abbrev pub is_exact : ℤ → Bool
is_exact mark = lt_z (pos 0) mark
