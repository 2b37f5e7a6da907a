-- The allowance by the test of the divisor, once for every property; the bound by its own sum; and division by 1 number by number.
use mathlib.Core.Path.{◌≡◌, refl, ap}
use mathlib.Core.Bool.{Bool, true, false, cond}
use borrow.Author.Tests.{ltb-true, ltb-false}
use Prim.Native.Nat.{ℕ, ◌≤◌, ◌<◌}
use native.Mathlib.Nat as NL
use lib.Dec.{ltb}
use lib.IntN.{ℤ, pos, ◌+ℤ◌, +ℤ_idr}
use lib.Signed.{◌≤ℤ◌}
use mir.Syntax.{w64}
use mir.Val.{SFits}
use Rattle.algebra.proofs.Integer.{signed}
use Rattle.outward.proofs.Division.{floor_one, ceil_one}
use Rattle.enclosure.specs.Entry.{allowance, rounded, DividedByOne, BoundAlone}
use Rattle.enclosure.proofs.Scaled.{same_entry}

-- ---- the allowance
-- has a property that 0 has where the divisor is not above 1, and 1 where it is
by_divisor : (P : ℤ → Type 0) (d : ℕ) → (d ≤ 1 → P (pos 0)) → (1 < d → P (pos 1)) → P (allowance d)
unfolding allowance
by_divisor P d at_one above = by (ltb 1 d) refl
  where
    by : (t : Bool) → ltb 1 d ≡ t → P (cond t (pos 1) (pos 0))
    by true e = above (ltb-true 1 d e)
    by false e = at_one (ltb-false 1 d e)

pub allowance_above : (d : ℕ) → 1 < d → allowance d ≡ pos 1
allowance_above d l = by_divisor (λ z. z ≡ pos 1) d (λ k. absurd (NL.not-le_of_lt l k)) (λ _. refl)

pub allowance_least : (d : ℕ) → pos 0 ≤ℤ allowance d
allowance_least d = by_divisor (λ z. pos 0 ≤ℤ z) d (λ _. omega signed) (λ _. omega signed)

-- where there is room for the one, there is room for the allowance
pub allowance_fits : (z : ℤ) (d : ℕ) → SFits w64 z → SFits w64 (z +ℤ pos 1) → SFits w64 (z +ℤ allowance d)
allowance_fits z d none one = by_divisor (λ a. SFits w64 (z +ℤ a)) d (λ _. rw (+ℤ_idr z) none) (λ _. one)

-- ---- the quotients
pub bound_alone : BoundAlone
unfolding rounded
bound_alone d s s' p = ap (λ (b : ℤ). (rounded d (record { low = s.low; high = s.high; bound = b })).bound) p

pub divided_by_one : DividedByOne
unfolding rounded allowance
divided_by_one s = same_entry (floor_one s.low) (ceil_one s.high) (rw (ceil_one s.bound) (+ℤ_idr s.bound))
