-- By what `number` finds: a number is the only field. Where there is none, what `contains` tells says whether more fields follow.
use mathlib.Core.Path.{refl, sym, ap, ◌∙◌}
use mathlib.Core.List.{[], ◌∷◌}
use native.Mathlib.Omega.{arith}
use lib.IntN.{ℤ}
use mir.Syntax.{w64}
use Rattle.algebra.proofs.Size.{held}
use Rattle.text.specs.Bytes.{space}
use Rattle.text.proofs.Scan.{has_any}
use Rattle.lines.specs.Line.{numbers}
use Rattle.lines.proofs.Parted.{too_many, field_number, field_none}
use Rattle.lines.proofs.line.last_number.Goals as goal

pub returns-in-Some : goal.returns-in-Some
returns-in-Some c rest =
    ap (λ (x : ℤ). numbers (x ∷ []) rest) (held w64 (omega arith) refl)
    ∙ sym (field_number c.args.signs c.args.part.now rest c.in-Some.z (sym c.in-Some.ensures))

pub returns-in-None : goal.returns-in-None
returns-in-None c rest =
    sym (too_many c.args.signs c.args.part.now rest (has_any space c.args.part.now ∙ sym c.contains.ensures.value ∙ c.if-contains.true))

pub returns-in-None-2 : goal.returns-in-None-2
returns-in-None-2 c rest =
    sym (field_none c.args.signs c.args.part.now rest
    (has_any space c.args.part.now ∙ sym c.contains.ensures.value ∙ c.if-contains.false) (sym c.in-None.ensures))
