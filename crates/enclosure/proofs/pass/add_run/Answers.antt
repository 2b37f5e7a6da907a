-- What a run adds is what comes off with its negated factors.
use mathlib.Core.Path.{sym, subst}
use Rattle.enclosure.specs.Entry.{EntryFits}
use Rattle.enclosure.specs.Term.{entries_of}
use Rattle.enclosure.proofs.Scaled.{minus_sums}
use Rattle.enclosure.proofs.pass.add_run.Goals as goal

pub sub-requires : goal.sub-requires
sub-requires c =
    let a = c.args in
    rw (c.run_sums.ensures, c.neg.ensures)
    (subst EntryFits (sym (minus_sums a.factor a.sums a.run.from a.run.to a.x a.weights.now (entries_of a.row.now))) c.requires.entry_fits)
