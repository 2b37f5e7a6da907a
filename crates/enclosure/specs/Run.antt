-- What the crate's inner functions ask for and work on: runs of a term's severities, and the sums over a run in natural numbers.
use Rattle.std.specs.Prelude.{Bool, cond, List, ◌≡◌, ℕ, ◌+◌, ◌-◌, ◌*◌, ◌^◌, ◌≤◌, ◌<◌, ℤ, pos, nat_abs, neg_ℤ, ◌+ℤ◌, ◌-ℤ◌, ◌*ℤ◌, ◌≤ℤ◌, ◌<ℤ◌, length}
use Rattle.algebra.specs.Sum.{accumulate_back}
use Rattle.model.specs.Weights.{total_weight}
use Rattle.model.specs.Limits.{unit, most_last}
use Rattle.enclosure.specs.declared.Entry.{Entry}
use Rattle.enclosure.specs.declared.raised.Raised.{Raised}
use Rattle.enclosure.specs.declared.run.Run.{Run}
use Rattle.enclosure.specs.declared.term.Factor.{Factor}
use Rattle.enclosure.specs.Entry.{none, plus}
use Rattle.enclosure.specs.Term.{Small, line_at, line_factor, term_at}

-- ---- a small factor
pub record FactorSmall (f : Factor) : Type 0 where
  pub constant_small : nat_abs f.constant ≤ 500000
  pub slope_small : nat_abs f.slope ≤ 1000

-- ---- where a term's factors change sign
abbrev pub negative : Factor → Factor
negative f = record { constant = neg_ℤ f.constant; slope = neg_ℤ f.slope }

-- the factor whose line is zero or more on a run
abbrev pub upright : Factor → Bool → Factor
upright f below = cond below (negative f) f

-- the first run of the severities 1 to `last`, with the sign of the line at 1: up to its end the line has this sign, behind it the other
pub record FirstRun (f : Factor) (last : ℕ) (run : Run) : Type 0 where
  pub starts : run.from ≡ 0
  pub within : run.to ≤ last
  pub sign : pos 0 ≤ℤ line_at (upright f run.negative) 1
  pub inside : (y : ℕ) → 0 < y → y ≤ run.to → pos 0 ≤ℤ line_at (upright f run.negative) y
  pub behind : (y : ℕ) → run.to < y → y ≤ last → line_at (upright f run.negative) y <ℤ pos 0

-- ---- the sums over a run, of the severities `to`, to - 1, .., from + 1
abbrev pub run_sums : Factor → ℕ → ℕ → ℕ → List ℕ → (ℕ → Entry) → Entry
run_sums f from to x weights row = accumulate_back none plus to (to - from) (term_at (line_factor f weights) x row)

-- raised by 2U no number is below zero
abbrev pub raised : ℤ → ℕ
raised z = nat_abs (z +ℤ pos (2 * unit))

-- a factor of size n times a raised entry
abbrev pub raised_term : ℕ → Entry → Raised
raised_term n e = record { low = n * raised e.low; high = n * raised e.high; bound = n * raised e.bound; factors = n }

abbrev pub raised_none : Raised
raised_none = record { low = 0; high = 0; bound = 0; factors = 0 }

abbrev pub raised_plus : Raised → Raised → Raised
raised_plus r s = record {
  low = r.low + s.low;
  high = r.high + s.high;
  bound = r.bound + s.bound;
  factors = r.factors + s.factors;
}

-- the raised entry that severity y + 1 reads, times its factor's size
abbrev pub raised_at : Factor → ℕ → List ℕ → (ℕ → Entry) → ℕ → Raised
raised_at f x weights row y = raised_term (nat_abs (line_factor f weights y)) (row (x - (y + 1)))

-- over the last n of the first `to` severities
abbrev pub raised_sums : Factor → ℕ → ℕ → ℕ → List ℕ → (ℕ → Entry) → Raised
raised_sums f to n x weights row = accumulate_back raised_none raised_plus to n (raised_at f x weights row)

-- 2U times each factor comes off again
abbrev pub lowered : Raised → Entry
lowered r =
    let excess = pos r.factors *ℤ pos (2 * unit) in
    record { low = pos r.low -ℤ excess; high = pos r.high -ℤ excess; bound = pos r.bound -ℤ excess }

-- ---- what they ask for
-- the limits of a term, and a line that is zero or more on the run
pub record RunRoom (f : Factor) (from to x : ℕ) (weights : List ℕ) (row : ℕ → Entry) : Type 0 where
  pub factor_small : FactorSmall f
  pub x_small : x ≤ most_last
  pub weights_small : total_weight weights ≤ 1000
  pub row_small : (z : ℕ) → z < x → Small (row z)
  pub in_order : from ≤ to
  pub below_x : to ≤ x
  pub weighted : to ≤ length weights
  pub line_upright : (y : ℕ) → from < y → y ≤ to → pos 0 ≤ℤ line_at f y

-- what the raised sums of a run come to at most
pub record RaisedSmall (r : Raised) : Type 0 where
  pub low_small : r.low ≤ 4000000000000000000
  pub high_small : r.high ≤ 4000000000000000000
  pub bound_small : r.bound ≤ 4000000000000000000
  pub factors_small : r.factors ≤ 1000000000

-- a factor of size n, an entry, and the sums with their product
pub record AddRoom (r : Raised) (n : ℕ) (e : Entry) : Type 0 where
  pub factor_small : n < 2 ^ 32
  pub low_small : nat_abs e.low ≤ 2 * unit
  pub high_small : nat_abs e.high ≤ 2 * unit
  pub bound_small : nat_abs e.bound ≤ 2 * unit
  pub sums_small : RaisedSmall (raised_plus r (raised_term n e))
