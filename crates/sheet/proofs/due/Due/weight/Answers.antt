-- A line that is read has a byte at least, so that less is left after it.
use mathlib.Core.Path.{sym, ◌∙◌}
use Rattle.lines.specs.Keywords.{W}
use Rattle.lines.proofs.GoodLine.{good_one}
use Rattle.sheet.proofs.LineRead.{read_ok, shorter}
use Rattle.sheet.proofs.due.Due.weight.Goals as goal

pub go_on-requires : goal.go_on-requires
go_on-requires c =
    shorter (good_one W c.args.self.now.rest.now c.read_weight.ensures.parsed (read_ok _ _ _ (sym c.placed.ensures ∙ c.in_ok-w.was)))
