-- The sizes fit, so that the saturating sum is the difference where that is not below 0.
use Rattle.std.proofs.Common.{arith, ◌≡◌, ℤ, pos, negsuc, nat_abs, ◌*ℤ◌, ◌-ℤ◌, ℕ, ◌*◌, ◌≤◌, ◌<◌, ◌^◌, w64, to_z, ◌∙◌}
use Rattle.std.proofs.lemmas.Int.{ints, to_z-of_z}
use native.Mathlib.Nat as NL
use Rattle.std.specs.Int.{saturate_unsigned}
use Rattle.algebra.specs.Parts.{up}
use Rattle.algebra.proofs.Size.{size_sub, size_mul_le, negative_held}
use Rattle.compound.proofs.check.thinned_divisor.Goals as goal

saturated : (z : ℤ) → nat_abs z < 2 ^ 64 → saturate_unsigned w64 z ≡ up z
saturated (pos n) h = omega arith
saturated (negsuc n) h = omega arith

pub returns : goal.returns
returns c =
    let a = c.args.a in
    let taken : ℤ = a *ℤ pos c.args.zero in
    let whole : ℕ = c.args.divisor * c.args.total in
    let fits : to_z w64 c.args.zero ≡ pos c.args.zero = omega (arith, ints) in
    let taken_small : nat_abs taken ≤ 1000 * 1000 = size_mul_le a (pos c.args.zero) 1000 1000 c.requires.1 c.requires.2 in
    let whole_small : whole ≤ 1000 * 1000 = NL.mul-le-mul c.requires.0 c.requires.3 in
    (rw (to_z-of_z w64 a c.ranges.a, fits, negative_held w64 taken (omega arith)) at c.saturating_add_signed.ensures)
    ∙ saturated (pos whole -ℤ taken) (omega (arith, size_sub (pos whole) taken))
