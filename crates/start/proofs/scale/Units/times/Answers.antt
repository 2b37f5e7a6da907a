-- The quotients are what the call ensures, of the products, since these fit; and a step keeps numbers from 0 to U.
use mathlib.Core.Path.{◌≡◌}
use lib.IntN.{ℤ, ◌*ℤ◌}
use mir.Syntax.{w64}
use mir.Val.{to_z, of_z}
use mir.Facts.{to_z-of_z}
use Rattle.outward.specs.declared.Interval.{Interval}
use Rattle.outward.specs.Division.{floor_div, ceil_div}
use Rattle.outward.proofs.Division.{same_ends}
use Rattle.start.specs.declared.scale.Factor.{Factor}
use Rattle.start.specs.Step.{times, InUnit}
use Rattle.start.specs.Room.{Proper}
use Rattle.start.proofs.Sizes.{ends_of, products}
use Rattle.start.proofs.Step.{stepped}
use Rattle.start.proofs.scale.Units.times.Goals as goal

-- what a number's bits are read as
abbrev read : ℤ → ℤ
read z = to_z w64 (of_z w64 z)

quotient_is : (factor : Factor) (ends quotient : Interval) → Proper factor → InUnit ends
    → (quotient.low ≡ floor_div (read (read ends.low *ℤ to_z w64 factor.low)) factor.divisor)
    × (quotient.high ≡ ceil_div (read (read ends.high *ℤ to_z w64 factor.high)) factor.divisor)
    → quotient ≡ times factor ends
unfolding times
quotient_is factor ends quotient proper in_unit e =
    let s = ends_of ends in_unit in
    let k = products factor ends proper in_unit in
    let low = s.low_fits in
    let high = s.high_fits in
    let low_product = k.low_product in
    let high_product = k.high_product in
    let (is-low, is-high) = simp (to_z-of_z, k.factor_low, k.factor_high) at e in
    same_ends is-low is-high

pub returns : goal.returns
returns c = quotient_is _ _ _ c.requires c.args.self.in_unit c.divide-quotient.ensures.ends

pub invariant_of-result : goal.invariant_of-result
invariant_of-result c =
    let e = quotient_is _ _ _ c.requires c.args.self.in_unit c.divide-quotient.ensures.ends in
    record { in_unit = rw e (stepped _ c.requires _ c.args.self.in_unit).in_unit }
