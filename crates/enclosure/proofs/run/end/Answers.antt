-- A line that falls stays zero or more for as many severities more as its slope goes into it, and no further.
use borrow.Author.Rules.{rules}
use mathlib.Core.Path.{◌≡◌, refl, ◌∙◌, ap, ap₂}
use Prim.Native.Nat.{◌/◌}
use native.Mathlib.Omega.{arith}
use lib.IntN.{pos, nat_abs}
use lib.Signed.{◌<ℤ◌}
use mir.Syntax.{w64}
use mir.Facts.{to_z-of_z}
use Rattle.algebra.proofs.Line.{line_as_far, line_past}
use Rattle.algebra.proofs.Size.{held}
use Rattle.enclosure.specs.Term.{line_at}
use Rattle.enclosure.proofs.Sizes.{slope_fits}
use Rattle.enclosure.proofs.run.end.Goals as goal

pub returns : goal.returns
returns c =
    let f = c.args.factor in
    let slope_is = to_z-of_z (slope_fits f c.requires.0) in
    let falls : f.slope <ℤ pos 0 = search rules in
    let further : c.unsigned_abs.result / c.unsigned_abs-2.result ≡ nat_abs (line_at f 1) / nat_abs f.slope =
    ap₂ ◌/◌ (c.unsigned_abs.ensures.value ∙ ap nat_abs (held w64 c.line_at.type_inv c.line_at.ensures))
    (c.unsigned_abs-2.ensures.value ∙ ap nat_abs slope_is) in
    record {
      starts = refl;
      within = omega arith;
      sign = c.requires.2;
      inside = λ y l k. line_as_far f.slope f.constant 1 y falls c.requires.2 (omega arith);
      behind = λ y l k. line_past f.slope f.constant 1 y falls c.requires.2 (omega arith);
    }
