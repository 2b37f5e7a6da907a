-- Why an entry with equal ends always has its mark, one step of the outward rule at a time: low stays at most high, and a step that makes
-- equal ends has all that the rule for exact entries asks for.
use Rattle.std.specs.Prelude.{◌≡◌, Bool, true, ◌&&◌, ℕ, ◌≤◌, ◌<◌, ℤ, ◌≤ℤ◌}
use Rattle.algebra.specs.Sum.{all_of}
use Rattle.enclosure.specs.declared.Entry.{Entry}
use Rattle.enclosure.specs.Entry.{sum_of, scaled, rounded, divides_sums}
use Rattle.enclosure.specs.Mark.{keeps_exact}

-- an entry in order that is exact where its ends are equal
pub record EqualMarked (e : Entry) (exact : Bool) : Type 0 where
  pub in_order : e.low ≤ℤ e.high
  pub marked : e.low ≡ e.high → exact ≡ true

-- a product: under a factor other than 0 its ends are equal only where the entry's are, and a factor of 0 asks for nothing
abbrev pub ProductMarked : Type 0
ProductMarked = (factor : ℤ) (e : Entry) (exact : Bool) → EqualMarked e exact
    → EqualMarked (scaled factor e) (keeps_exact factor e.low e.high exact)

-- a sum: of parts in order, so that its ends are equal only where those of each part are
abbrev pub SumMarked : Type 0
SumMarked = (n : ℕ) (e : ℕ → Entry) (exact : ℕ → Bool) → ((i : ℕ) → i < n → EqualMarked (e i) (exact i))
    → EqualMarked (sum_of n e) (all_of n exact)

-- a quotient: rounded outward from sums in order, so that its ends are equal only where the sums are, and leave no remainder
abbrev pub QuotientMarked : Type 0
QuotientMarked = (d : ℕ) (sums : Entry) (exact : Bool) → 1 ≤ d → EqualMarked sums exact
    → EqualMarked (rounded d sums) (divides_sums d sums && exact)
