-- What `read_keyword` finds parts the line, and the first space parts its two numbers. The second is read before the first, since too many
-- words are refused before a word that is no number.
use mathlib.Core.Path.{refl, sym, ap, ◌∙◌}
use mathlib.Core.List.{[], ◌∷◌}
use native.Mathlib.Omega.{arith}
use mir.Syntax.{w64}
use Rattle.algebra.proofs.Size.{held}
use Rattle.text.specs.Bytes.{space}
use Rattle.text.specs.Numbers.{number}
use Rattle.text.proofs.Scan.{split_yes, split_no}
use Rattle.text.proofs.Read.{found_yes, found_no}
use Rattle.lines.specs.Line.{numbers, faulty}
use Rattle.lines.specs.Parts.{two_of}
use Rattle.lines.specs.Reason.{number_of}
use Rattle.lines.specs.declared.Reason.TheVariants.{Form, Word}
use Rattle.lines.proofs.Parted.{handed_on, parted, with_first, too_few, first_field}
use Rattle.lines.proofs.line.read_two.Goals as goal

pub returns-in_err-part-clause-parsed : goal.returns-in_err-part-clause-parsed
returns-in_err-part-clause-parsed c =
    ap two_of (handed_on _ c.from_residual.ensures.1) ∙ sym (parted c.args.signs c.args.keyword.now 1 c.args.rest.now c.in_err-part.ensures.parsed)

pub returns-in_err-first-clause-parsed : goal.returns-in_err-first-clause-parsed
returns-in_err-first-clause-parsed c =
    let a = c.args in
    let part = c.in_ok-part.part.now in
    let next = c.in_ok-part.next.now in
    let no = split_no space part Form c.split_once.result c.split_once.ensures.parts (sym c.in_err-first.ensures.value) in
    ap two_of (handed_on _ c.from_residual-in_err-first.ensures.1)
    ∙ ap (λ reason. faulty (number_of reason)) (sym no.1)
    ∙ sym (parted a.signs a.keyword.now 1 a.rest.now c.in_ok-part.ensures.parsed ∙ too_few a.signs 0 part next no.0)

pub returns-in_err-z-clause-parsed : goal.returns-in_err-z-clause-parsed
returns-in_err-z-clause-parsed c =
    let a = c.args in
    let part = c.in_ok-part.part.now in
    let next = c.in_ok-part.next.now in
    let split = split_yes space part Form c.split_once.result c.split_once.ensures.parts (sym c.in_ok-first.ensures.value) in
    ap two_of (handed_on _ c.from_residual-in_err-z.ensures.1)
    ∙ ap (with_first (number a.signs c.in_ok-first.first.now)) (c.in_err-z.ensures next)
    ∙ sym (parted a.signs a.keyword.now 1 a.rest.now c.in_ok-part.ensures.parsed ∙ first_field a.signs 0 part next split)

pub returns-in_err-y-clause-parsed : goal.returns-in_err-y-clause-parsed
returns-in_err-y-clause-parsed c =
    let a = c.args in
    let part = c.in_ok-part.part.now in
    let next = c.in_ok-part.next.now in
    let split = split_yes space part Form c.split_once.result c.split_once.ensures.parts (sym c.in_ok-first.ensures.value) in
    let no = found_no Word c.number.result c.number.ensures (sym c.in_err-y.ensures.value) in
    ap two_of (handed_on _ c.from_residual-in_err-y.ensures.1)
    ∙ ap (λ reason. faulty (number_of reason)) (sym no.1)
    ∙ (λ i. with_first (sym no.0 i) (c.in_ok-z.ensures next i))
    ∙ sym (parted a.signs a.keyword.now 1 a.rest.now c.in_ok-part.ensures.parsed ∙ first_field a.signs 0 part next split)

pub returns-clause-parsed : goal.returns-clause-parsed
returns-clause-parsed c =
    let a = c.args in
    let part = c.in_ok-part.part.now in
    let next = c.in_ok-part.next.now in
    let split = split_yes space part Form c.split_once.result c.split_once.ensures.parts (sym c.in_ok-first.ensures.value) in
    let yes = found_yes Word c.number.result c.number.ensures (sym c.in_ok-y.ensures.value) in
    let y-held = held w64 {z = c.in_ok-y.y} (omega arith) refl in
    let z-held = held w64 {z = c.in_ok-z.z} (omega arith) refl in
    (λ i. numbers (y-held i ∷ z-held i ∷ []) next)
    ∙ (λ i. with_first (sym yes i) (c.in_ok-z.ensures next i))
    ∙ sym (parted a.signs a.keyword.now 1 a.rest.now c.in_ok-part.ensures.parsed ∙ first_field a.signs 0 part next split)
