-- By what `until` ensures.
use mathlib.Core.Path.{ap, ◌∙◌}
use Prim.Native.Nat.{ℕ}
use lib.ListN.{drop}
use Rattle.algebra.proofs.Slice.{part_to_end}
use Rattle.text.proofs.Scan.{until_past}
use Rattle.text.proofs.lines.after.Goals as goal

pub returns-clause-rest : goal.returns-clause-rest
returns-clause-rest c =
    let s = c.args.s.now in
    part_to_end s c.min.result
    ∙ ap (λ (k : ℕ). drop k s) c.min.ensures
    ∙ until_past c.args.b s c.until.result c.until.ensures.found
