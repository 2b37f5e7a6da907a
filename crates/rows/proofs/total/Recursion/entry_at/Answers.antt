-- At total 0 the start, later the sums, divided.
use Rattle.std.proofs.Common.{sym, ap₂, ◌∙◌}
use Rattle.enclosure.specs.Entry.{rounded, divides_sums}
use Rattle.rows.proofs.Sums.{ready_in, bound_fits}
use Rattle.rows.proofs.Recursion.{entry_first, entry_later, divides_first, divides_later}
use Rattle.rows.proofs.total.Recursion.entry_at.Goals as goal

pub returns-then-x-eq0-clause-entry : goal.returns-then-x-eq0-clause-entry
returns-then-x-eq0-clause-entry c = c.first_entry.ensures ∙ sym (entry_first _ _ _ c.args.row c.args.x c.if-x-eq0.true)

pub returns-then-x-eq0-clause-exact : goal.returns-then-x-eq0-clause-exact
returns-then-x-eq0-clause-exact c = sym (divides_first _ _ _ c.args.row c.args.x c.if-x-eq0.true)

pub divided-requires : goal.divided-requires
divided-requires c =
    let r = c.args.self.now in (
      c.divisor.ensures.fits.0,
      c.divisor.ensures.fits.1,
      rw c.sums_at.ensures (bound_fits _ _ _ _ (ready_in r.limits c.requires.0).basis c.args.row _ c.requires.1),
    )

pub returns-clause-entry : goal.returns-clause-entry
returns-clause-entry c =
    c.divided.ensures.entry ∙ ap₂ rounded c.divisor.ensures.divisor c.sums_at.ensures
    ∙ sym (entry_later _ _ _ c.args.row c.args.x c.if-x-eq0.false)

pub returns-clause-exact : goal.returns-clause-exact
returns-clause-exact c =
    c.divided.ensures.exact ∙ ap₂ divides_sums c.divisor.ensures.divisor c.sums_at.ensures
    ∙ sym (divides_later _ _ _ c.args.row c.args.x c.if-x-eq0.false)
