-- What is promised of the two calls: which numbers the start that they give holds, in units, and that it passes the curve's check 4.
use Rattle.std.specs.Prelude.{◌≡◌, ℕ, ◌/◌, ◌%◌, ◌≤◌, ◌<◌, pos, neg_ℤ, ◌-ℤ◌, ◌≤ℤ◌}
use Rattle.algebra.specs.Fraction.{Fraction, over, whole, ◌⊗◌, Between, product, power}
use Rattle.model.specs.Answer.{accepted}
use Rattle.model.specs.Limits.{unit}
use Rattle.outward.specs.declared.Interval.{Interval}
use Rattle.start.specs.Step.{InUnit}
use Rattle.start.specs.Exponential.{exponential}
use Rattle.start.specs.Call.{start_of_mean, start_of_trials}

-- ---- what the start is to hold
-- U times ((s-r)/s) to the N
abbrev pub power_units : (r s N : ℕ) → 1 ≤ s → Fraction
power_units r s N h = whole (pos unit) ⊗ power (over (pos s -ℤ pos r) s h) N

-- the partial sum for -q/s taken to term n
abbrev pub rest_sum : (r s : ℕ) → 1 ≤ s → ℕ → Fraction
rest_sum r s h n = exponential (over (neg_ℤ (pos (r % s))) s h) n

-- "v partial sums of that for -1", each taken to its own term, multiplied
abbrev pub whole_product : ℕ → (ℕ → ℕ) → Fraction
whole_product v ns = product v (λ i. exponential (whole (neg_ℤ (pos 1))) (ns i))

-- U times the "product of a partial sum of the exponential series for -q/s with v partial sums of that for -1"
abbrev pub series_units : (r s : ℕ) → 1 ≤ s → ℕ → (ℕ → ℕ) → Fraction
series_units r s h n ns = whole (pos unit) ⊗ (rest_sum r s h n ⊗ whole_product (r / s) ns)

-- ---- what is said of a start
-- a number of units, whole or fraction, lies from low to high
abbrev pub Holds : Interval → Fraction → Type 0
Holds ends x = Between ends.low ends.high x

-- "0 ≤ s ≤ t ≤ U and t ≥ 1": what the curve's check 4 asks of a start
abbrev pub Passes : Interval → Type 0
Passes ends = InUnit ends × (pos 1 ≤ℤ ends.high)

-- ---- the statements
-- an accepted fraction has a lower number that is not 0
abbrev pub LowerPositive : Type 0
LowerPositive = ((r s : ℕ) → (start_of_mean r s).answer ≡ accepted → 1 ≤ s)
    × ((r s N : ℕ) → (start_of_trials r s N).answer ≡ accepted → 1 ≤ s)

-- "for trials, that it holds the exact power"
abbrev pub HoldsPower : Type 0
HoldsPower = (r s N : ℕ) → (start_of_trials r s N).answer ≡ accepted → (h : 1 ≤ s)
    → Holds (start_of_trials r s N).ends (power_units r s N h)

-- "the result holds, in units, every product .. each taken to term 13 or further"
abbrev pub HoldsSeries : Type 0
HoldsSeries = (r s : ℕ) → (start_of_mean r s).answer ≡ accepted → (h : 1 ≤ s)
    → (n : ℕ) (ns : ℕ → ℕ) → 13 ≤ n → ((i : ℕ) → i < r / s → 13 ≤ ns i)
    → Holds (start_of_mean r s).ends (series_units r s h n ns)

-- what is given passes the curve's check 4, so that no start of these calls is refused there
abbrev pub IsStart : Type 0
IsStart = ((r s : ℕ) → (start_of_mean r s).answer ≡ accepted → Passes (start_of_mean r s).ends)
    × ((r s N : ℕ) → (start_of_trials r s N).answer ≡ accepted → Passes (start_of_trials r s N).ends)
