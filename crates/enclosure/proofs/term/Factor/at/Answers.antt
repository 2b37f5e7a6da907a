-- The factor fits, as the line is at most 1,000,000 in size and the weight at most 1,000.
use mathlib.Core.Path.{◌≡◌, ap₂}
use native.Mathlib.Omega.{arith}
use lib.IntN.{pos, ◌*ℤ◌}
use mir.Syntax.{w64}
use mir.Val.{to_z}
use mir.Facts.{to_z-of_z, to_z_pos}
use Rattle.algebra.proofs.Size.{held}
use Rattle.enclosure.proofs.Sizes.{factor_fits}
use Rattle.enclosure.proofs.term.Factor.at.Goals as goal

pub returns : goal.returns
returns c =
    let weight : to_z w64 c.args.weight ≡ pos c.args.weight = to_z_pos w64 (omega (arith, c.requires.2)) in
    rw (ap₂ ◌*ℤ◌ (held w64 c.line_at.type_inv c.line_at.ensures) weight)
    (to_z-of_z (factor_fits _ c.requires.0 _ _ c.requires.1 c.requires.2))
