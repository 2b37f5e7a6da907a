-- The numbers have no sign, and are their sizes.
use mathlib.Core.Path.{sym, ap, ◌∙◌}
use mathlib.Core.Bool.{false}
use lib.IntN.{pos}
use Rattle.lines.proofs.LineParsed.{is_size}
use Rattle.lines.proofs.GoodLine.{good_two}
use Rattle.sheet.proofs.LineRead.{read_ok, shorter}
use Rattle.sheet.proofs.due.Due.two.Goals as goal

pub go_on-requires : goal.go_on-requires
go_on-requires c =
    shorter (good_two false c.args.keyword.now c.args.self.now.rest.now c.read_two.ensures.parsed
    (read_ok _ _ _ (sym c.placed.ensures ∙ c.in_ok-y.was)))

pub returns-clause-read : goal.returns-clause-read
returns-clause-read c =
    let good = good_two false c.args.keyword.now c.args.self.now.rest.now c.read_two.ensures.parsed
    (read_ok _ _ _ (sym c.placed.ensures ∙ c.in_ok-y.was)) in
    let y_is = ap pos c.unsigned_abs.ensures.value ∙ sym (is_size _ (good.fit 0)) ∙ good.held 0 in
    let z_is = ap pos c.unsigned_abs-2.ensures.value ∙ sym (is_size _ (good.fit 1)) ∙ good.held 1 in
    rw (good.gives, c.go_on.ensures.rest, y_is, z_is)
