-- Every row of the table holds, by one test over the whole table that the checker computes from the definitions.
use lib.Dec.{T}
use lib.IntN.{pos, ◌*ℤ◌}
use Rattle.algebra.specs.Sum.{accumulate}
use Rattle.algebra.proofs.Table.{each_passes, same_integer_lem}
use Rattle.algebra.specs.Fraction.{Fraction, over, whole, ◌⊕◌, ◌⊗◌, over_suc, one_to, zero_to, ◌≈◌}
use Rattle.exact.specs.Frequency.{a, b, with_next, count_coefficients, count_coefficient}
use Rattle.exact.specs.Severity.{density, convolution}
use Rattle.exact.specs.Amount.{exact_amount}
use Rattle.exact.specs.Cases.{Case, cases, CasesHold, same_fraction, test}

same_fraction_lem : (x y : Fraction) → T (same_fraction x y) → x ≈ y
same_fraction_lem x y t = record { across = same_integer_lem (x.upper *ℤ pos y.lower) (y.upper *ℤ pos x.lower) t }

pub cases_hold : CasesHold
unfolding exact_amount count_coefficient count_coefficients with_next a b convolution density one_to zero_to accumulate over_suc ◌⊗◌ ◌⊕◌ whole over
cases_hold c m = same_fraction_lem (exact_amount c.law c.table c.start c.total) c.amount (each_passes Case test cases tt c m)
