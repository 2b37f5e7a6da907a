-- What the passes over marks ask for and leave out: entries that are known to be exact need no look.
use Rattle.std.specs.Prelude.{◌≡◌, Bool, true, ◌&&◌, ◌⊎◌, ℕ, ◌≤◌, ◌<◌, ℤ, pos, ◌≤ℤ◌, length}
use Rattle.algebra.specs.Table.{same_integer}
use Rattle.enclosure.specs.declared.marks.MarkedRow.{MarkedRow}
use Rattle.enclosure.specs.declared.marks.Settled.{Settled}
use Rattle.enclosure.specs.declared.term.Factor.{Factor}
use Rattle.enclosure.specs.Term.{line_at}

-- a row that has ends and a mark at each total below x
pub record MarkedLong (row : MarkedRow) (x : ℕ) : Type 0 where
  pub low : x ≤ length row.low.now
  pub high : x ≤ length row.high.now
  pub mark : x ≤ length row.mark.now

-- of a row's entries at the totals below x
pub record SettledRow (settled : Settled) (x : ℕ) (low high : ℕ → ℤ) (exact : ℕ → Bool) : Type 0 where
  pub exact_most : settled.exact ≤ x
  pub equal_most : settled.equal ≤ x
  pub exact_from : (z : ℕ) → settled.exact ≤ z → z < x → exact z ≡ true
  pub equal_from : (z : ℕ) → settled.equal ≤ z → z < x → (exact z && same_integer (low z) (high z)) ≡ true

-- of a term's severities 1 to `last`: no factor is negative, and exact entries are enough; or their ends are to be equal too
abbrev pub KnownFrom : Factor → ℕ → Settled → ℕ → Type 0
KnownFrom factor last settled from =
    ((from ≡ settled.exact) × ((y : ℕ) → 0 < y → y ≤ last → pos 0 ≤ℤ line_at factor y)) ⊎ (from ≡ settled.equal)
