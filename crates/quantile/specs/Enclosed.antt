-- What the two queries tell of exact amounts that the rows enclose: whether, and where, their sums reach the level.
use Rattle.std.specs.Prelude.{◌≡◌, List, ℕ, ◌≤◌, ◌<◌, ℤ, length}
use Rattle.algebra.specs.Fraction.{Fraction, whole, ◌≼◌, zero_to}
use Rattle.model.specs.Answer.{accepted, refused}
use Rattle.intervals.specs.Amounts.{entries, Enclose}
use Rattle.quantile.specs.Call.{Found, sure_query, possible_query}

-- the sum of the amounts, from 0 to x, reaches the level
abbrev pub Reached : (ℕ → Fraction) → ℤ → ℕ → Type 0
Reached amount level x = whole level ≼ zero_to x amount

-- no sum before total x does
abbrev pub UnreachedBefore : (ℕ → Fraction) → ℤ → ℕ → Type 0
UnreachedBefore amount level x = (y : ℕ) → y < x → ¬ Reached amount level y

-- x is the quantile of the amounts at the level: the smallest total at which their sum reaches it. The sum may fall again behind it.
pub record Quantile (amount : ℕ → Fraction) (level : ℤ) (x : ℕ) : Type 0 where
  pub reached : Reached amount level x
  pub first : UnreachedBefore amount level x

-- the amounts have a quantile, and it lies from least to most
abbrev pub QuantileFrom : (least most : ℕ) → (ℕ → Fraction) → ℤ → Type 0
QuantileFrom least most amount level = (x : ℕ) × Quantile amount level x × (least ≤ x) × (x ≤ most)

abbrev pub Accepted : Found → Type 0
Accepted found = found.answer ≡ accepted

-- what the two queries tell of amounts
pub record QueriesTrue (low high : List ℤ) (level : ℤ) (amount : ℕ → Fraction) : Type 0 where
  -- at sure their sum reaches the level, so that they have a quantile, and it lies from possible to sure
  pub sure_reached : Accepted (sure_query low high level) → Reached amount level (sure_query low high level).total
  pub between : Accepted (sure_query low high level)
      → QuantileFrom (possible_query low high level).total (sure_query low high level).total amount level
  -- before possible no sum of theirs reaches it, so that a quantile of theirs, if there is one, is at least possible
  pub before_possible : Accepted (possible_query low high level) → UnreachedBefore amount level (possible_query low high level).total
  pub at_least_possible : Accepted (possible_query low high level)
      → (x : ℕ) → Quantile amount level x → (possible_query low high level).total ≤ x
  -- after 35 no sum of theirs reaches it, at any total of the rows
  pub none_reached : (possible_query low high level).answer ≡ refused 35 0 → UnreachedBefore amount level (length low)

-- ---- the statements
-- amounts have at most one quantile
abbrev pub OneQuantile : Type 0
OneQuantile = (amount : ℕ → Fraction) (level : ℤ) (x y : ℕ) → Quantile amount level x → Quantile amount level y → x ≡ y

-- sure is the quantile of the lows, and a total of the rows
abbrev pub SureOfLows : Type 0
SureOfLows = (low high : List ℤ) (level : ℤ) → Accepted (sure_query low high level)
    → Quantile (entries low) level (sure_query low high level).total × ((sure_query low high level).total < length low)

-- possible is the quantile of the highs, and a total of the rows
abbrev pub PossibleOfHighs : Type 0
PossibleOfHighs = (low high : List ℤ) (level : ℤ) → Accepted (possible_query low high level)
    → Quantile (entries high) level (possible_query low high level).total × ((possible_query low high level).total < length high)

-- where sure is accepted possible is too, and it is at most sure
abbrev pub PossibleWithSure : Type 0
PossibleWithSure = (low high : List ℤ) (level : ℤ) → Accepted (sure_query low high level)
    → Accepted (possible_query low high level) × ((possible_query low high level).total ≤ (sure_query low high level).total)

-- where possible is refused by 35 sure is refused by 34
abbrev pub ShortTogether : Type 0
ShortTogether = (low high : List ℤ) (level : ℤ) → (possible_query low high level).answer ≡ refused 35 0
    → (sure_query low high level).answer ≡ refused 34 0

-- the queries are true of all amounts that the rows enclose
abbrev pub QuantileEnclosed : Type 0
QuantileEnclosed = (low high : List ℤ) (level : ℤ) (amount : ℕ → Fraction) → Enclose low high amount → QueriesTrue low high level amount
