-- Claims that close at nothing: a weight w(0) beside the table's row, counted in W, and the law of the claims that are not zero. V is the
-- sum of the row, the weights of the sizes from 1 on.
use Rattle.std.specs.Prelude.{◌≡◌, List, ℕ, suc, ◌-◌, ◌*◌, ◌≤◌, min, ℤ, pos, ◌-ℤ◌, ◌*ℤ◌, ◌≤ℤ◌, length}
use Rattle.std.proofs.Math.Nat as NL
use Rattle.algebra.specs.Fraction.{Fraction, over, whole, ◌⊗◌, one_to, ◌≈◌, ◌≼◌}
use Rattle.model.specs.Weights.{total_weight, all_weight, thinned_divisor, divisor_zero}
use Rattle.exact.specs.Frequency.{Frequency, a, b}
use Rattle.exact.specs.Severity.{Severity, weight, density}
use Rattle.exact.specs.Amount.{exact_amount, exact_row}
use Rattle.exact.specs.Recursion.{whole_factor}

-- ---- the table with a weight at 0
abbrev pub all_pos : (w₀ : ℕ) (table : Severity) → 1 ≤ all_weight w₀ table.weights
all_pos w₀ table = NL.le_trans table.total_pos (NL.le-add_left (total_weight table.weights) w₀)

-- "q = w(0)/W"
unfoldable pub zero_share : ℕ → Severity → Fraction
zero_share w₀ table = over (pos w₀) (all_weight w₀ table.weights) (all_pos w₀ table)

-- 1 - x
unfoldable pub complement : Fraction → Fraction
complement x = over (pos x.lower -ℤ x.upper) x.lower x.lower_pos

-- ---- the law
module _ (law : Frequency) (w₀ : ℕ) (table : Severity) where
  -- "D times W - A times w(0)"
  abbrev pub law_divisor : ℕ
  law_divisor = thinned_divisor law.divisor (law.term_a 1) w₀ (all_weight w₀ table.weights)

  -- "the law of the claims that are not zero: terms a and b, each times (1 - q) over (1 - aq)": A V and B V over D W - A w(0). For a law
  -- of a higher order 11 leaves w(0) = 0 alone, and its terms keep their values.
  abbrev pub thinned_law : 1 ≤ law_divisor → Frequency
  thinned_law h = record {
    order = law.order;
    divisor = law_divisor;
    divisor_pos = h;
    term_a = λ i. law.term_a i *ℤ pos (total_weight table.weights);
    term_b = λ i. law.term_b i *ℤ pos (total_weight table.weights);
  }

-- where A is at most D, as for Poisson, binomial and negative binomial laws, D W - A w(0) is at least D times V: no weight of size 0 makes
-- the divisor smaller, and 12 refuses no such law where V is not 0
abbrev pub ThinnedDivisorLarge : Type 0
ThinnedDivisorLarge = (D : ℕ) (A : ℤ) (w₀ : ℕ) (weights : List ℕ) → A ≤ℤ pos D
    → D * total_weight weights ≤ thinned_divisor D A w₀ (all_weight w₀ weights)

-- in the paper's words: 1 - aq is above zero, and each term of the thinned law times it is the given law's term times 1 - q
abbrev pub ThinnedTerms : Type 0
ThinnedTerms = (law : Frequency) (w₀ : ℕ) (table : Severity) (h : 1 ≤ law_divisor law w₀ table)
    → let remaining = complement (a law 1 ⊗ zero_share w₀ table) in
    ¬ (remaining ≼ whole (pos 0))
    × ((i : ℕ) → a (thinned_law law w₀ table h) i ⊗ remaining ≈ a law i ⊗ complement (zero_share w₀ table))
    × ((i : ℕ) → b (thinned_law law w₀ table h) i ⊗ remaining ≈ b law i ⊗ complement (zero_share w₀ table))

-- "and the other severities over their own sum": f(y) times 1 - q is w(y)/W
abbrev pub ThinnedSeverities : Type 0
ThinnedSeverities = (w₀ : ℕ) (table : Severity) (y : ℕ)
    → density table y ⊗ complement (zero_share w₀ table) ≈ over (pos (weight table y)) (all_weight w₀ table.weights) (all_pos w₀ table)

-- ---- what the curve computes
-- "The divisor in row 0 becomes (D times W - A times w(0)) times x", over the factors of the job's own law
abbrev pub ThinnedRecursion : Type 0
ThinnedRecursion = (law : Frequency) (w₀ : ℕ) (table : Severity) (h : 1 ≤ law_divisor law w₀ table) (p : Fraction) (x : ℕ)
    → whole (pos (divisor_zero law.divisor (law.term_a 1) w₀ (all_weight w₀ table.weights) x))
    ⊗ exact_amount (thinned_law law w₀ table h) table p x
    ≈ one_to law.order (λ i. one_to (min x (length table.weights)) (λ y.
    whole (whole_factor law table x i y) ⊗ exact_row (thinned_law law w₀ table h) table p (i - 1) (x - y)))

-- a weight at 0 is "for laws of order 1 only": for a row j ≥ 1, which only a law of a higher order has, w(0) is 0, and its divisor W is
-- the sum of the other weights
abbrev pub ThinnedConvolution : Type 0
ThinnedConvolution = (law : Frequency) (w₀ : ℕ) (table : Severity) (h : 1 ≤ law_divisor law w₀ table) (p : Fraction) (j x : ℕ) → w₀ ≡ 0
    → whole (pos (all_weight w₀ table.weights)) ⊗ exact_row (thinned_law law w₀ table h) table p (suc j) x
    ≈ one_to (min x (length table.weights)) (λ y.
    whole (pos (weight table y)) ⊗ exact_row (thinned_law law w₀ table h) table p j (x - y))

-- "With weight 0 the curve answers as before": the rows are those of the law itself
abbrev pub ThinnedWithoutZeros : Type 0
ThinnedWithoutZeros = (law : Frequency) (w₀ : ℕ) (table : Severity) (h : 1 ≤ law_divisor law w₀ table) (p : Fraction) (j x : ℕ) → w₀ ≡ 0
    → exact_row (thinned_law law w₀ table h) table p j x ≈ exact_row law table p j x
