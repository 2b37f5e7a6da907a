-- The rows' first X+1 places are what the job shows. These entries are in order, as the exact amounts lie between them, and small, as none
-- has a fault; so no call refuses them by 31 or 33.
use mathlib.Core.Path.{◌≡◌, refl, sym}
use mathlib.Core.Bool.{false}
use mathlib.Core.List.{List}
use Prim.Native.Nat.{ℕ, ◌+◌, ◌≤◌, ◌<◌}
use native.Mathlib.Nat as NL
use native.Mathlib.Omega.{arith}
use borrow.Author.Tests.{le-ltb, eq-eqb}
use lib.IntN.{ℤ, pos}
use lib.Signed.{◌≤ℤ◌}
use lib.ListN.{length}
use lib.Seq.{get_or-take, length-take-le}
use Rattle.algebra.specs.Fraction.{Fraction, whole, ◌≼◌}
use Rattle.algebra.proofs.Integer.{signed, ≤ℤ-ltZ}
use Rattle.algebra.proofs.Smallest.{smallest_none}
use Rattle.algebra.proofs.Value.{≼_refl, ≼_trans, whole_mono, le_of_whole}
use Rattle.model.specs.declared.Job.{Job}
use Rattle.model.specs.Limits.{most_totals}
use Rattle.model.proofs.Tests.{inside}
use Rattle.exact.specs.JobAmount.{Divisible, amount}
use Rattle.compound.specs.Lent.{Lent}
use Rattle.compound.specs.Call.{curve_lent}
use Rattle.compound.proofs.Accepted.{limits, entry_small, lows_long, highs_long}
use Rattle.intervals.specs.Checks.{wrong_at, rows_condition, entry_condition}
use Rattle.intervals.specs.Amounts.{Enclose}
use Rattle.accuracy.specs.Accuracy.{Accepted, shown}
use Rattle.accuracy.specs.Rows.{lows, highs, RowsEnclose}
use Rattle.accuracy.proofs.Accuracy.{accepted_divisible, encloses}

module _ (job : Job) (weights : List ℕ) (lent : Lent) (ok : Accepted job weights lent) where
  abbrev low : List ℤ
  low = lows job weights lent

  abbrev high : List ℤ
  high = highs job weights lent

  abbrev places : ℕ
  places = job.last + 1

  low_length : length low ≡ places
  low_length = length-take-le places (curve_lent job weights lent).low (lows_long job weights lent ok)

  high_length : length high ≡ places
  high_length = length-take-le places (curve_lent job weights lent).high (highs_long job weights lent ok)

  enclosed : (h : Divisible job weights) (p : Fraction) → whole (pos job.start.low) ≼ p → p ≼ whole (pos job.start.high)
      → Enclose low high (amount job weights h p)
  enclosed h p s t x l =
      let below : x < places = rw low_length at l in
      simp get_or-take (encloses job weights lent ok h x (omega arith) p s t)

  -- ---- 31
  pub right_lengths : (rows_condition low high).holds ≡ false
  right_lengths = rw (
    low_length,
    high_length,
    inside 1 most_totals places (omega arith) (omega (arith, (limits job weights lent ok).last_most)),
    eq-eqb places places refl,
  )

  -- ---- 33
  -- by the exact amount between them, for the low start
  ordered : (x : ℕ) → x ≤ job.last → (shown job weights lent x).low ≤ℤ (shown job weights lent x).high
  ordered x l =
      let s = whole (pos job.start.low) in
      let t : s ≼ whole (pos job.start.high) = whole_mono (omega (signed, (limits job weights lent ok).start_order)) in
      let between = encloses job weights lent ok (accepted_divisible job weights lent ok) x l s (≼_refl s) t in
      le_of_whole (≼_trans between.0 between.1)

  right_entry : (x : ℕ) → x < places → wrong_at low high x ≡ false
  right_entry x l =
      let small = entry_small job weights lent ok x l in
      simp (get_or-take, le-ltb _ _ small.low, le-ltb _ _ small.high, ≤ℤ-ltZ _ _ (ordered x (omega arith)))

  pub right_entries : (entry_condition low high).holds ≡ false
  right_entries = le-ltb _ _ (NL.le_of_eq (sym (smallest_none _ _ (λ x l. right_entry x (rw low_length at l)))))

pub rows_enclose : RowsEnclose
rows_enclose = enclosed
