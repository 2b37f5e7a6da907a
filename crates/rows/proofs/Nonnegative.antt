-- No bound is below zero: the start's gap is not, and sums, factors' sizes and divisions rounded up keep it so.
use mathlib.Core.List.{List}
use Prim.Native.Nat.{ℕ, zero, suc, ◌<◌}
use lib.IntN.{ℤ, pos, nat_abs, neg_ℤ}
use lib.Signed.{◌≤ℤ◌}
use Rattle.algebra.proofs.Integer.{signed, split_add, split_neg, *ℤ-nonneg}
use Rattle.model.specs.declared.Job.{Job}
use Rattle.outward.specs.Division.{ceil_div}
use Rattle.outward.proofs.Division.{ceil_nonneg}
use Rattle.enclosure.specs.declared.Entry.{Entry}
use Rattle.enclosure.specs.Entry.{plus, scaled, allowance, rounded}
use Rattle.enclosure.proofs.Rounded.{allowance_least}
use Rattle.rows.specs.Curve.{first_entry, curve_rows}
use Rattle.rows.specs.Limits.{Limits}
use Rattle.rows.proofs.Preserved.{PreservedAlone, divisors_pos, all_entries}

abbrev pub Nonneg : Entry → Type 0
Nonneg e = pos 0 ≤ℤ e.bound

nonneg_plus : (d e : Entry) → Nonneg d → Nonneg e → Nonneg (plus d e)
nonneg_plus d e p q = omega (signed, split_add d.bound e.bound)

nonneg_scaled : (z : ℤ) (e : Entry) → Nonneg e → Nonneg (scaled z e)
unfolding scaled
nonneg_scaled z e p = *ℤ-nonneg (pos (nat_abs z)) e.bound (omega signed) p

nonneg_rounded : (d : ℕ) (e : Entry) → Nonneg e → Nonneg (rounded d e)
unfolding rounded
nonneg_rounded d e p =
    omega (signed, ceil_nonneg e.bound d p, allowance_least d, split_add (ceil_div e.bound d) (allowance d))

abbrev nonneg : PreservedAlone Nonneg
nonneg = record {
  by_none = omega signed;
  by_plus = nonneg_plus;
  by_scaled = nonneg_scaled;
  by_rounded = λ d e _ p. nonneg_rounded d e p;
}

module _ (job : Job) (weights : List ℕ) (limits : Limits job weights) where
  first_nonneg : (j : ℕ) → Nonneg (first_entry job.start j)
  first_nonneg zero = omega (
    signed,
    limits.start_order,
    split_add (pos job.start.high) (neg_ℤ (pos job.start.low)),
    split_neg (pos job.start.low),
  )
  first_nonneg (suc j) = omega signed

  pub bound_nonneg : (x j : ℕ) → j < job.law.order → Nonneg (curve_rows job weights j x)
  bound_nonneg = all_entries nonneg job weights
      (divisors_pos job weights limits.thinned_least limits.table.weights_least) first_nonneg
