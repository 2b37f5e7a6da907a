-- By what `until` ensures: where nothing follows what stands before the first b, there is none.
use mathlib.Core.Path.{sym, ap, ◌∙◌}
use mathlib.Core.Option.{some}
use Prim.Native.Nat.{◌-◌}
use native.Mathlib.Omega.{arith}
use lib.ListN.{length, take, drop}
use Rattle.algebra.proofs.Slice.{part_to_end}
use Rattle.text.proofs.Scan.{around_none, around_some}
use Rattle.text.proofs.lines.split_once.Goals as goal

pub returns-in_default-clause-parts : goal.returns-in_default-clause-parts
returns-in_default-clause-parts c =
    let s = c.args.s.now in
    let k = c.until-at.result in
    sym (around_none c.args.b s k c.until-at.ensures.found (omega (arith, ap length (part_to_end s k), c.in_default.len_below)))

pub returns-clause-parts : goal.returns-clause-parts
returns-clause-parts c =
    let s = c.args.s.now in
    let k = c.until-at.result in
    let rest = part_to_end s k in
    (λ i. some (take k s, (part_to_end (take (length s - k) (drop k s)) 1 ∙ ap (drop 1) rest) i))
    ∙ sym (around_some c.args.b s k c.until-at.ensures.found (omega (arith, ap length rest, c.in-len1-up.len_at_least)))
