-- A line that is read has a byte at least, so that less is left after it.
use mathlib.Core.Path.{sym, ◌∙◌}
use mathlib.Core.Bool.{true}
use Rattle.lines.specs.Keywords.{TERM}
use Rattle.lines.proofs.GoodLine.{good_two}
use Rattle.sheet.proofs.LineRead.{read_ok, shorter}
use Rattle.sheet.proofs.due.Due.term.Goals as goal

pub go_on-requires : goal.go_on-requires
go_on-requires c =
    shorter (good_two true TERM c.args.self.now.rest.now c.read_two.ensures.parsed (read_ok _ _ _ (sym c.placed.ensures ∙ c.in_ok-a.was)))
