-- What `read_keyword` finds parts the line, and what `last_number` finds of the part is the rest of it: a number, which has no sign.
use mathlib.Core.Path.{◌≡◌, sym, ap, ◌∙◌}
use mathlib.Core.Bool.{false}
use mathlib.Core.List.{[], ◌∷◌}
use lib.IntN.{ℤ, pos}
use Rattle.lines.specs.Line.{numbers, line}
use Rattle.lines.specs.Parts.{one_of}
use Rattle.lines.proofs.Parted.{handed_on, parted}
use Rattle.lines.proofs.LineParsed.{is_size}
use Rattle.lines.proofs.GoodLine.{good_line}
use Rattle.lines.proofs.line.read_one.Goals as goal

pub returns-in_err-part-clause-parsed : goal.returns-in_err-part-clause-parsed
returns-in_err-part-clause-parsed c =
    ap one_of (handed_on _ c.from_residual.ensures.1) ∙ sym (parted false c.args.keyword.now 0 c.args.rest.now c.in_err-part.ensures.parsed)

pub returns-in_err-z-clause-parsed : goal.returns-in_err-z-clause-parsed
returns-in_err-z-clause-parsed c =
    ap one_of (handed_on _ c.from_residual-in_err-z.ensures.1)
    ∙ c.in_err-z.ensures c.in_ok-part.next.now
    ∙ sym (parted false c.args.keyword.now 0 c.args.rest.now c.in_ok-part.ensures.parsed)

pub returns-clause-parsed : goal.returns-clause-parsed
returns-clause-parsed c =
    let a = c.args in
    let next = c.in_ok-part.next.now in
    let gives : line false a.keyword.now 1 a.rest.now ≡ numbers (c.in_ok-z.z ∷ []) next =
    parted false a.keyword.now 0 a.rest.now c.in_ok-part.ensures.parsed ∙ sym (c.in_ok-z.ensures next) in
    let good = good_line false a.keyword.now a.rest.now (c.in_ok-z.z ∷ []) next gives in
    ap (λ (z : ℤ). numbers (z ∷ []) next) (ap pos c.unsigned_abs.ensures.value ∙ sym (is_size _ (good.fit 0)) ∙ good.held 0) ∙ sym gives
