-- By the index's parity: what stands in each field is the definition's, since every number on the way fits.
use borrow.Author.Rules.{rules}
use borrow.Author.Tests.{eq-eqb, ne_eqb}
use mathlib.Core.Path.{sym, ◌∙◌}
use Rattle.algebra.proofs.Alternating.{even_mod}
use Rattle.outward.proofs.Division.{same_ends}
use Rattle.start.proofs.Sizes.{parts}
use Rattle.start.proofs.Terms.{plus_even, plus_odd}
use Rattle.start.proofs.series.add_part.Goals as goal

pub returns-then-index-eq0 : goal.returns-then-index-eq0
returns-then-index-eq0 c =
    let a = c.args in
    let k = parts a.term.ends a.sum a.term.in_unit c.requires in
    rw (plus_even _ _ _ (sym (even_mod a.index) ∙ eq-eqb _ _ c.if-index-eq0.true)) (same_ends (search rules) (search rules))

pub returns-else-index-eq0 : goal.returns-else-index-eq0
returns-else-index-eq0 c =
    let a = c.args in
    let k = parts a.term.ends a.sum a.term.in_unit c.requires in
    rw (plus_odd _ _ _ (sym (even_mod a.index) ∙ ne_eqb _ _ c.if-index-eq0.false)) (same_ends (search rules) (search rules))
