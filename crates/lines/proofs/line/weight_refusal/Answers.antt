-- What `read_keyword` finds parts the line. What follows the keyword is no number, so it is too many words, or one that is none.
use mathlib.Core.Path.{sym, ◌∙◌}
use mathlib.Core.Bool.{false}
use Rattle.text.specs.Bytes.{space}
use Rattle.text.proofs.Scan.{has_any}
use Rattle.lines.specs.Keywords.{W}
use Rattle.lines.proofs.Parted.{parted, too_many, field_none}
use Rattle.lines.proofs.Weight.{no_weight}
use Rattle.lines.proofs.line.weight_refusal.Goals as goal

pub returns-in-Err : goal.returns-in-Err
returns-in-Err c = sym (parted false W 0 c.args.rest.now c.in-Err.ensures.parsed)

pub returns-in-Ok : goal.returns-in-Ok
returns-in-Ok c =
    let part = c.in-Ok.part.now in
    sym (parted false W 0 c.args.rest.now c.in-Ok.ensures.parsed
    ∙ too_many false part c.in-Ok.field-0-1.now (has_any space part ∙ sym c.contains.ensures.value ∙ c.if-contains.true))

pub returns-in-Ok-2 : goal.returns-in-Ok-2
returns-in-Ok-2 c =
    let part = c.in-Ok.part.now in
    sym (parted false W 0 c.args.rest.now c.in-Ok.ensures.parsed
    ∙ field_none false part c.in-Ok.field-0-1.now (has_any space part ∙ sym c.contains.ensures.value ∙ c.if-contains.false)
    (no_weight c.args.rest.now c.requires (sym c.in-Ok.ensures.parsed)))
