-- Where the line ends and its first space stands, and then `==` decides.
use mathlib.Core.Path.{sym, ap, ◌∙◌}
use mathlib.Core.Bool.{true, false}
use Rattle.text.specs.Bytes.{line_end, space}
use Rattle.text.proofs.Scan.{split_yes, split_no}
use Rattle.lines.specs.Parts.{wrong, head_of}
use Rattle.lines.specs.Reason.{number_of}
use Rattle.lines.specs.declared.Reason.TheVariants.{Missing, Form}
use Rattle.lines.proofs.Parted.{handed_on, no_line_end, no_space, keyword_decides}
use Rattle.lines.proofs.line.read_keyword.Goals as goal

pub returns-in_err-line-clause-parsed : goal.returns-in_err-line-clause-parsed
returns-in_err-line-clause-parsed c =
    let a = c.args in
    let no = split_no line_end a.rest.now Missing c.split_once.result c.split_once.ensures.parts (sym c.in_err-line.ensures.value) in
    ap head_of (handed_on _ c.from_residual.ensures.1)
    ∙ ap (λ reason. wrong (number_of reason)) (sym no.1)
    ∙ sym (no_line_end a.keyword.now a.rest.now no.0)

pub returns-in_err-word-clause-parsed : goal.returns-in_err-word-clause-parsed
returns-in_err-word-clause-parsed c =
    let a = c.args in
    let line = split_yes line_end a.rest.now Missing c.split_once.result c.split_once.ensures.parts (sym c.in_ok-line.ensures.value) in
    let no = split_no space c.in_ok-line.line.now Form c.split_once-2.result c.split_once-2.ensures.parts (sym c.in_err-word.ensures.value) in
    ap head_of (handed_on _ c.from_residual-in_err-word.ensures.1)
    ∙ ap (λ reason. wrong (number_of reason)) (sym no.1)
    ∙ sym (no_space a.keyword.now a.rest.now line no.0)

pub returns-then-eq-clause-parsed : goal.returns-then-eq-clause-parsed
returns-then-eq-clause-parsed c =
    let a = c.args in
    let line = split_yes line_end a.rest.now Missing c.split_once.result c.split_once.ensures.parts (sym c.in_ok-line.ensures.value) in
    let word = split_yes space c.in_ok-line.line.now Form c.split_once-2.result c.split_once-2.ensures.parts (sym c.in_ok-word.ensures.value) in
    sym (keyword_decides a.keyword.now a.rest.now line word true (sym c.if-eq.true ∙ c.eq.ensures))

pub returns-else-eq-clause-parsed : goal.returns-else-eq-clause-parsed
returns-else-eq-clause-parsed c =
    let a = c.args in
    let line = split_yes line_end a.rest.now Missing c.split_once.result c.split_once.ensures.parts (sym c.in_ok-line.ensures.value) in
    let word = split_yes space c.in_ok-line.line.now Form c.split_once-2.result c.split_once-2.ensures.parts (sym c.in_ok-word.ensures.value) in
    sym (keyword_decides a.keyword.now a.rest.now line word false (sym c.if-eq.false ∙ c.eq.ensures))
