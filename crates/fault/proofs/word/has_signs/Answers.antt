-- The keyword is what stands before the first space.
use mathlib.Core.Path.{sym, ap, ◌∙◌}
use mathlib.Core.List.{List, []}
use Prim.Native.Nat.{ℕ}
use lib.Dec.{eqb}
use lib.ListN.{get_or}
use Rattle.algebra.specs.Table.{same_list}
use Rattle.text.specs.Bytes.{space}
use Rattle.text.proofs.Scan.{until_before, words_split}
use Rattle.lines.specs.Keywords.{TERM}
use Rattle.fault.proofs.word.has_signs.Goals as goal

pub returns : goal.returns
returns c =
    let line = c.args.line.now in
    c.eq.ensures
    ∙ ap (λ (w : List ℕ). same_list eqb w TERM) (until_before space line c.until.result c.until.ensures.found)
    ∙ sym (ap (λ (ws : List (List ℕ)). same_list eqb (get_or ws 0 []) TERM) (words_split line))
