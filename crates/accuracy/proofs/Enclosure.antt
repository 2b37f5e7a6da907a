-- Every entry of the curve's rows encloses the exact entry. The exact rows follow the same recursion over the rational numbers, and there
-- sums, factors and outward divisions keep a number between two ends.
use mathlib.Core.Path.{◌≡◌}
use mathlib.Core.List.{List}
use Prim.Native.Nat.{ℕ, zero, suc, ◌≤◌, ◌<◌}
use native.Mathlib.Omega.{arith}
use lib.IntN.{ℤ, pos, negsuc}
use Rattle.algebra.specs.Fraction.{Fraction, Between}
use Rattle.algebra.specs.Ring.{int}
use Rattle.algebra.specs.Semiring.{nat}
use Rattle.algebra.proofs.Integer.{signed}
use Rattle.algebra.proofs.Ring.{int_mul}
use Rattle.algebra.proofs.Order.{mul_mono, mul_turn, int_mono}
use Rattle.algebra.proofs.Value.{order, ℚ, Within, within_value, of_within, within_zero, within_add}
use Rattle.model.specs.declared.Job.{Job}
use Rattle.exact.specs.Frequency.{Frequency}
use Rattle.exact.specs.Severity.{Severity}
use Rattle.exact.specs.Recursion.{whole_factor}
use Rattle.exact.proofs.Amount.{value_row, value_amount}
use Rattle.exact.proofs.Recursion.{first_value, first_further}
use Rattle.exact.proofs.Thinned.{thinned_recursion_value, thinned_convolution_value}
use Rattle.exact.specs.JobAmount.{Divisible, given_law, job_law, job_table, amount}
use Rattle.outward.proofs.Enclosed.{floor_le, le_ceil}
use Rattle.enclosure.specs.declared.Entry.{Entry}
use Rattle.enclosure.specs.Entry.{scaled, rounded}
use Rattle.rows.specs.Curve.{factor, first_entry, curve_rows}
use Rattle.rows.proofs.Preserved.{Preserved, Follows, divisors_pos, all_preserved}
open order use {◌⊑◌}
open ℚ use {carrier as A, 𝟘, ◌⊹◌, ◌·◌}

infix 4 ◌⊑◌
infixl 6 ◌⊹◌
infixl 7 ◌·◌
-- the integer z as a rational number
abbrev integer : ℤ → A
integer = int order.ring

-- v lies from the low to the high of e
abbrev Inside : Entry → A → Type 0
Inside e v = Within e.low e.high v

-- ---- a factor, which turns the ends where it is negative
nonneg : (n : ℕ) → 𝟘 ⊑ integer (pos n)
unfolding int nat
nonneg n = int_mono order {a = pos 0} {b = pos n} (omega signed)

nonpos : (n : ℕ) → integer (negsuc n) ⊑ 𝟘
unfolding int nat
nonpos n = int_mono order {a = negsuc n} {b = pos 0} (omega signed)

within_scaled : (z : ℤ) (e : Entry) (v : A) → Inside e v → Inside (scaled z e) (integer z · v)
unfolding scaled
within_scaled (pos n) e v w = record {
  below = rw int_mul (mul_mono order (integer (pos n)) (nonneg n) w.below);
  above = rw int_mul (mul_mono order (integer (pos n)) (nonneg n) w.above);
}
within_scaled (negsuc n) e v w = record {
  below = rw int_mul (mul_turn order (integer (negsuc n)) (nonpos n) w.above);
  above = rw int_mul (mul_turn order (integer (negsuc n)) (nonpos n) w.below);
}

-- ---- a division
within_rounded : (d : ℕ) (e : Entry) (s v : A) → 1 ≤ d → Inside e s → nat ℚ d · v ≡ s → Inside (rounded d e) v
unfolding rounded
within_rounded d e s v l w q = record {
  below = floor_le order e.low d l (rw q w.below);
  above = le_ceil order e.high d l (rw q w.above);
}

abbrev enclosing : Preserved A Inside
enclosing = record {
  nought = 𝟘;
  add = ◌⊹◌;
  times = λ z v. integer z · v;
  Divided = λ d s v. nat ℚ d · v ≡ s;
  by_none = within_zero;
  by_plus = λ e f u v. within_add;
  by_scaled = within_scaled;
  by_rounded = within_rounded;
}

-- ---- all entries
-- a table with zeros has no further rows
module _ (job : Job) (weights : List ℕ) (h : Divisible job weights) (no_zeros : 1 < job.law.order → job.zero ≡ 0) (p : Fraction)
    (start : Between (first_entry job.start 0).low (first_entry job.start 0).high p) where
  abbrev law : Frequency
  law = job_law job weights h

  abbrev table : Severity
  table = job_table job weights h

  first_within : (j : ℕ) → Inside (first_entry job.start j) (value_row law table p j 0)
  first_within zero = rw first_value (within_value _ _ p start)
  first_within (suc j) = rw first_further within_zero

  exact_follows : Follows enclosing job weights (value_row law table p)
  unfolding factor whole_factor int
  exact_follows = record {
    first = λ j _. first_within j;
    row_zero = λ x _. thinned_recursion_value (given_law job weights h) job.zero table h.thinned_pos p (suc x);
    row_next = λ j x l.
        thinned_convolution_value (given_law job weights h) job.zero table h.thinned_pos p j (suc x) (no_zeros (omega arith));
  }

  -- the rows 0 to k - 1
  enclosed : (x j : ℕ) → j < job.law.order → Inside (curve_rows job weights j x) (value_row law table p j x)
  enclosed = all_preserved enclosing job weights (divisors_pos job weights h.thinned_pos h.total_pos) (value_row law table p)
      exact_follows

  pub amount_enclosed : 0 < job.law.order → (x : ℕ)
      → Between (curve_rows job weights 0 x).low (curve_rows job weights 0 x).high (amount job weights h p x)
  amount_enclosed l x = of_within _ _ (amount job weights h p x) (rw value_amount (enclosed x 0 l))
