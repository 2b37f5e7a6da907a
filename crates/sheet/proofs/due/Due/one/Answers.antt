-- A line that is read has a byte at least, so that less is left after it.
use mathlib.Core.Path.{sym, ◌∙◌}
use Rattle.lines.proofs.GoodLine.{good_one}
use Rattle.sheet.proofs.LineRead.{read_ok, shorter}
use Rattle.sheet.proofs.due.Due.one.Goals as goal

pub go_on-requires : goal.go_on-requires
go_on-requires c =
    shorter (good_one c.args.keyword.now c.args.self.now.rest.now c.read_one.ensures.parsed (read_ok _ _ _ (sym c.placed.ensures ∙ c.in_ok-n.was)))
