-- Sundt's recursion for the exact amounts: what is claimed, for every order, every table and every starting chance.
use Rattle.std.specs.Prelude.{ℕ, suc, ◌-◌, ◌*◌, min, ℤ, pos, ◌+ℤ◌, ◌*ℤ◌, length}
use Rattle.algebra.specs.Fraction.{Fraction, whole, ◌⊕◌, ◌⊗◌, over_suc, one_to, ◌≈◌}
use Rattle.model.specs.Weights.{total_weight}
use Rattle.exact.specs.Frequency.{Frequency, a, b}
use Rattle.exact.specs.Severity.{Severity, weight, density, convolution}
use Rattle.exact.specs.Amount.{exact_amount, exact_row}

-- Corollary 5 of Sundt (1992), document 002, times x: the amount at x is the sum over y from 1 to x of the amount at x - y times the
-- sum over i from 1 to k of (a_i + b_i y / (i x)) times the i-fold convolution of f at y
abbrev pub PublishedRecursion : Type 0
PublishedRecursion = (law : Frequency) (table : Severity) (p : Fraction) (x : ℕ)
    → whole (pos x) ⊗ exact_amount law table p x
    ≈ one_to x (λ y. exact_amount law table p (x - y) ⊗ one_to law.order (λ i.
    (whole (pos x) ⊗ a law i ⊕ whole (pos y) ⊗ over_suc (b law i) (i - 1)) ⊗ convolution (density table) i y))

-- "the same recursion with its convolutions carried in rows", times x: the amount at x is the sum over i from 1 to k and over y from
-- 1 to x of (a_i + b_i y / x) times f(y) times the entry of row i - 1 at x - y
abbrev pub RowRecursion : Type 0
RowRecursion = (law : Frequency) (table : Severity) (p : Fraction) (x : ℕ)
    → whole (pos x) ⊗ exact_amount law table p x
    ≈ one_to law.order (λ i. one_to x (λ y.
    (whole (pos x) ⊗ a law i ⊕ whole (pos y) ⊗ b law i) ⊗ density table y ⊗ exact_row law table p (i - 1) (x - y)))

-- "(A_i times x + B_i times y) times w(y)": what multiplies the entry of row i - 1 at x - y
unfoldable pub whole_factor : Frequency → Severity → ℕ → ℕ → ℕ → ℤ
whole_factor law table x i y = (law.term_a i *ℤ pos x +ℤ law.term_b i *ℤ pos y) *ℤ pos (weight table y)

-- the row recursion with whole factors: "y from 1 to the smaller of x and m", "The divisor is D times x times W.", with the sum of the
-- weights from 1 on for W
abbrev pub WholeRecursion : Type 0
WholeRecursion = (law : Frequency) (table : Severity) (p : Fraction) (x : ℕ)
    → whole (pos (law.divisor * x * total_weight table.weights)) ⊗ exact_amount law table p x
    ≈ one_to law.order (λ i. one_to (min x (length table.weights)) (λ y.
    whole (whole_factor law table x i y) ⊗ exact_row law table p (i - 1) (x - y)))

-- "Row j ≥ 1 sums w(y) times the entry of row j-1 at x-y. The divisor is W.", with the same sum
abbrev pub WholeConvolution : Type 0
WholeConvolution = (law : Frequency) (table : Severity) (p : Fraction) (j x : ℕ)
    → whole (pos (total_weight table.weights)) ⊗ exact_row law table p (suc j) x
    ≈ one_to (min x (length table.weights)) (λ y. whole (pos (weight table y)) ⊗ exact_row law table p j (x - y))

-- at total 0 row 0 has the starting chance, the other rows nothing
abbrev pub FirstEntries : Type 0
FirstEntries = (law : Frequency) (table : Severity) (p : Fraction)
    → (exact_amount law table p 0 ≈ p) × ((j : ℕ) → exact_row law table p (suc j) 0 ≈ whole (pos 0))
