-- Wish 1: "From a mean r/s, or from a chance r/s with a number of trials, r from 0 up, give the start."
use Rattle.std.specs.Prelude.{Bool, ◌||◌, cond, List, [], ◌∷◌, ℕ, zero, suc, ◌-◌, ◌*◌, ◌/◌, ◌%◌, leb, ltb, ℤ, pos, neg_ℤ, Result, Ok, Err}
use Rattle.algebra.specs.Alternating.{is_even}
use Rattle.algebra.specs.Sum.{sumℤ}
use Rattle.model.specs.declared.Start.{Start}
use Rattle.model.specs.Answer.{Answer, Condition, accepted, refused, is_accepted, condition, first_refusal}
use Rattle.model.specs.Limits.{unit, outside}
use Rattle.outward.specs.declared.Interval.{Interval}
use Rattle.start.specs.declared.scale.Factor.{Factor}
use Rattle.start.specs.declared.Reason.{Reason}
use Rattle.start.specs.declared.Reason.TheVariants.{Fraction, Chance, Trials}
use Rattle.start.specs.Step.{certain, exactly, times, repeated}

-- ---- the answer
abbrev pub number_of : Reason → ℕ
number_of Fraction = 41
number_of Chance = 42
number_of Trials = 43

-- the number of a refusal, 0 for none, with its place, which is always 0; and the start, in units
pub record Started : Type 0 where
  pub answer : Answer
  pub ends : Interval

-- "the other numbers in its answer are 0" after a refusal
abbrev pub nothing : Interval
nothing = record { low = pos 0; high = pos 0 }

abbrev pub given : Start → Started
given start = record { answer = accepted; ends = record { low = pos start.low; high = pos start.high } }

-- what the paper says for each answer of the code
abbrev pub paper : Result Start Reason → Started
paper (Ok start) = given start
paper (Err reason) = record { answer = refused (number_of reason) 0; ends = nothing }

-- ---- "For a mean, split r/s into its whole part v and a rest q/s."
-- "the next is the last times q, over (s times its index j), rounded down and up"
abbrev pub next_term : (q s j : ℕ) → Interval → Interval
next_term q s j term = times (exactly q (s * j)) term

-- "Terms begin at U and U"
unfoldable pub term : (q s j : ℕ) → Interval
term q s zero = certain
term q s (suc j) = next_term q s (suc j) (term q s j)

-- "The low adds even terms' lows and takes off odd terms' highs"
abbrev pub low_part : (q s j : ℕ) → ℤ
low_part q s j = cond (is_even j) (term q s j).low (neg_ℤ (term q s j).high)

-- "the high adds even highs and takes off odd lows"
abbrev pub high_part : (q s j : ℕ) → ℤ
high_part q s j = cond (is_even j) (term q s j).high (neg_ℤ (term q s j).low)

-- the low "for j 0 to 13", the high "for j 0 to 12"
unfoldable pub series : (q s : ℕ) → Interval
series q s = record { low = sumℤ 14 (low_part q s); high = sumℤ 13 (high_part q s) }

-- "367879441 and 367879442 over U": e to the -1
abbrev pub exp_minus_one : Factor
exp_minus_one = record { low = 367879441; high = 367879442; divisor = unit }

-- "Then multiply v times by 367879441 and 367879442 over U, outward."
unfoldable pub of_mean : (r s : ℕ) → Interval
of_mean r s = repeated exp_minus_one (r / s) (series (r % s) s)

-- ---- "For trials N, begin with U and U and multiply N times by (s-r)/s, rounding down and up; a negative binomial of whole shape uses the
-- same steps", with its shape for N and, for r/s, the p of source document 000, whose chance of no claims is (1-p)^N
unfoldable pub of_trials : (r s N : ℕ) → Interval
of_trials r s N = repeated (exactly (s - r) s) N certain

-- ---- "It refuses with 41 an s outside 1 to 1,000 or a mean above 20, then 42 a chance of 1 or more, then 43 a number of trials outside 1
-- to 1,000."
abbrev pub wrong_lower : ℕ → Bool
wrong_lower s = outside 1 1000 s

abbrev pub wrong_mean : (r s : ℕ) → Bool
wrong_mean r s = wrong_lower s || ltb (20 * s) r

abbrev pub mean_checks : (r s : ℕ) → List Condition
mean_checks r s = condition (wrong_mean r s) 41 0 ∷ []

-- a chance is no mean: one above 20 is refused by 42
abbrev pub trials_checks : (r s N : ℕ) → List Condition
trials_checks r s N =
    condition (wrong_lower s) 41 0
    ∷ condition (leb s r) 42 0
    ∷ condition (outside 1 1000 N) 43 0
    ∷ []

-- ---- the calls
abbrev pub started : Answer → Interval → Started
started answer ends = record { answer = answer; ends = cond (is_accepted answer) ends nothing }

unfoldable pub start_of_mean : (r s : ℕ) → Started
start_of_mean r s = started (first_refusal (mean_checks r s)) (of_mean r s)

unfoldable pub start_of_trials : (r s N : ℕ) → Started
start_of_trials r s N = started (first_refusal (trials_checks r s N)) (of_trials r s N)
