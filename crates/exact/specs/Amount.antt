-- The exact amounts, by convolutions and never by the recursion.
use Rattle.std.specs.Prelude.{ℕ, zero, suc, ◌-◌}
use Rattle.algebra.specs.Fraction.{Fraction, ◌⊗◌, one_to, zero_to}
use Rattle.exact.specs.Frequency.{Frequency, count_coefficient}
use Rattle.exact.specs.Severity.{Severity, density, convolution}

-- "The exact amount at x for a starting chance p (in units, whole or any fraction) is p times the sum over n from 0 to x of P_n times the
-- n-fold convolution at x."
unfoldable pub exact_amount : Frequency → Severity → Fraction → ℕ → Fraction
exact_amount law table p x = p ⊗ zero_to x (λ n. count_coefficient law n ⊗ convolution (density table) n x)

-- "Row 0 is the curve; row j stands for row 0 convolved j times with f": the exact entry of row j at x
unfoldable pub exact_row : Frequency → Severity → Fraction → ℕ → ℕ → Fraction
exact_row law table p zero x = exact_amount law table p x
exact_row law table p (suc j) x = one_to x (λ y. density table y ⊗ exact_row law table p j (x - y))
