-- A number that is put is put as the paper writes it.
use mathlib.Core.List.{◌∷◌}
use lib.IntN.{ℤ}
use mir.Syntax.{w64}
use mir.Val.{SFits, to_z, of_z}
use mir.Facts.{to_z-of_z}
use Rattle.std.specs.Fmt.{signed_decimal}
use Rattle.text.specs.Bytes.{space}
use Rattle.text.specs.Numbers.{decimal}
use Rattle.output.specs.declared.Output.{Output}
use Rattle.output.specs.Output.{PutsInto}
use Rattle.output.proofs.Printed.{decimal_printed}

pub further : {before after : Output} (z : ℤ) → SFits w64 z → PutsInto (space ∷ signed_decimal (to_z w64 (of_z w64 z))) before after
    → PutsInto (space ∷ decimal z) before after
further z f p = rw (to_z-of_z f, decimal_printed z f.sfits) at p
