-- The first run adds the sums up to its end, and the second, if there is one, those behind it.
use mathlib.Core.Path.{◌∙◌}
use Rattle.enclosure.proofs.RunByRun.{first_fits, first_next, second_room, second_fits}
use Rattle.enclosure.proofs.pass.add_term.Goals as goal

pub add_run-sums-requires-clause-entry_fits : goal.add_run-sums-requires-clause-entry_fits
add_run-sums-requires-clause-entry_fits c = first_fits _ _ _ _ _ c.requires.term_room _ c.min-last.ensures _ c.first-first.ensures

pub add_run-requires-clause-run_room : goal.add_run-requires-clause-run_room
add_run-requires-clause-run_room c = second_room _ _ _ _ _ c.requires.term_room _ c.min-last.ensures _ c.first-first.ensures

pub add_run-requires-clause-entry_fits : goal.add_run-requires-clause-entry_fits
add_run-requires-clause-entry_fits c =
    let first = c.add_run-sums.ensures ∙ first_next _ _ _ _ _ c.requires.term_room _ c.min-last.ensures _ c.first-first.ensures in
    rw first (second_fits _ _ _ _ _ c.requires.term_room _ c.min-last.ensures _ c.first-first.ensures)
