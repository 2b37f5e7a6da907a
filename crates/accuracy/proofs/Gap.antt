-- No entry of the curve's rows is wider than its bound: at total 0 the bound is the width, and sums, factors and divisions keep it so.
use mathlib.Core.List.{List}
use Prim.Native.Nat.{ℕ, zero, suc, ◌+◌, ◌*◌, ◌≤◌, ◌<◌}
use native.Mathlib.Nat as NL
use native.Mathlib.Omega.{arith}
use lib.IntN.{ℤ, pos, negsuc, neg_ℤ, ◌-ℤ◌, ◌*ℤ◌}
use lib.Signed.{◌≤ℤ◌, ≤ℤ_refl}
use Rattle.algebra.specs.Parts.{up, down}
use Rattle.algebra.proofs.Integer.{signed, split_add, split_mul, split_neg}
use Rattle.model.specs.declared.Job.{Job}
use Rattle.exact.specs.JobAmount.{Divisible}
use Rattle.outward.specs.Division.{floor_div, ceil_div}
use Rattle.outward.proofs.Division.{floor_is, ceil_is}
use Rattle.enclosure.specs.declared.Entry.{Entry}
use Rattle.enclosure.specs.Entry.{plus, scaled, allowance, rounded}
use Rattle.enclosure.proofs.Rounded.{allowance_above, divided_by_one}
use Rattle.rows.specs.Curve.{first_entry, curve_rows}
use Rattle.rows.proofs.Preserved.{PreservedAlone, divisors_pos, all_entries}

abbrev pub Narrow : Entry → Type 0
Narrow e = (e.high -ℤ e.low) ≤ℤ e.bound

-- the same between natural numbers, by the parts above and below zero: `omega` adds and multiplies these
abbrev Parts : Entry → Type 0
Parts e = up e.high + (down e.low + down e.bound) ≤ up e.low + up e.bound + down e.high

parts : (e : Entry) → Narrow e → Parts e
parts e w = omega (signed, split_add e.high (neg_ℤ e.low), split_neg e.low)

of_parts : (e : Entry) → Parts e → Narrow e
of_parts e h = omega (signed, split_add e.high (neg_ℤ e.low), split_neg e.low)

narrow_plus : (e f : Entry) → Narrow e → Narrow f → Narrow (plus e f)
narrow_plus e f p q = of_parts (plus e f) (omega (
  arith,
  parts e p,
  parts f q,
  split_add e.low f.low,
  split_add e.high f.high,
  split_add e.bound f.bound,
))

narrow_scaled : (z : ℤ) (e : Entry) → Narrow e → Narrow (scaled z e)
unfolding scaled
narrow_scaled (pos n) e w = of_parts (scaled (pos n) e) (omega (
  arith,
  NL.mul-le-mul_left n (parts e w),
  split_mul (pos n) e.low,
  split_mul (pos n) e.high,
  split_mul (pos n) e.bound,
))
narrow_scaled (negsuc n) e w = of_parts (scaled (negsuc n) e) (omega (
  arith,
  NL.mul-le-mul_left (suc n) (parts e w),
  split_mul (negsuc n) e.low,
  split_mul (negsuc n) e.high,
  split_mul (pos (suc n)) e.bound,
))

-- each end is moved by less than 1, so that the gap of two integers grows by at most 1, which is allowed where the divisor is above 1
narrow_above : (d : ℕ) (e : Entry) → 1 < d → Narrow e → Narrow (rounded d e)
unfolding rounded
narrow_above d e l w =
    of_parts (rounded d e) (omega (signed, split_add bound (allowance d), allowance_above d l, NL.lt_of_mul-lt-mul_left d multiplied))
  where
    low : ℤ
    low = floor_div e.low d

    high : ℤ
    high = ceil_div e.high d

    bound : ℤ
    bound = ceil_div e.bound d

    least : 1 ≤ d
    least = omega arith

    multiplied : d * (up high + (down low + down bound)) < d * (up low + up bound + 2 + down high)
    multiplied = omega (
      signed,
      parts e w,
      (floor_is e.low d least).1,
      (ceil_is e.high d least).1,
      (ceil_is e.bound d least).0,
      split_add (pos d *ℤ low) (pos d),
      split_add e.high (pos d),
      split_mul (pos d) low,
      split_mul (pos d) high,
      split_mul (pos d) bound,
    )

-- divided by 1, an entry stays as it is
narrow_rounded : (d : ℕ) (e : Entry) → 1 ≤ d → Narrow e → Narrow (rounded d e)
narrow_rounded zero e l w = absurd (NL.not-le_of_lt l (NL.le_refl 0))
narrow_rounded (suc zero) e l w = rw (divided_by_one e) w
narrow_rounded (suc (suc d)) e l w = narrow_above (suc (suc d)) e (omega arith) w

-- ---- all entries
abbrev narrowing : PreservedAlone Narrow
narrowing = record { by_none = omega signed; by_plus = narrow_plus; by_scaled = narrow_scaled; by_rounded = narrow_rounded }

module _ (job : Job) (weights : List ℕ) where
  narrow_first : (j : ℕ) → Narrow (first_entry job.start j)
  narrow_first zero = ≤ℤ_refl (pos job.start.high -ℤ pos job.start.low)
  narrow_first (suc j) = ≤ℤ_refl (pos 0)

  pub narrow : Divisible job weights → (x j : ℕ) → j < job.law.order → Narrow (curve_rows job weights j x)
  narrow h = all_entries narrowing job weights (divisors_pos job weights h.thinned_pos h.total_pos) narrow_first
