-- By whether the word starts with a minus sign: what follows the sign decides, or the word itself.
use mathlib.Core.Path.{sym, ap, ◌∙◌}
use Rattle.text.specs.Numbers.{minus, negative_of}
use Rattle.text.proofs.Read.{starts_prefix, number_minus, number_plain}
use Rattle.text.proofs.numbers.signed.Goals as goal

pub returns-in-Some : goal.returns-in-Some
returns-in-Some c =
    let word = c.args.word.now in
    let begins = c.in-Some.ensures.cases in
    c.negative.ensures ∙ ap negative_of begins.1 ∙ sym (number_minus word (starts_prefix minus word ∙ begins.0))

pub returns-in-None : goal.returns-in-None
returns-in-None c =
    let word = c.args.word.now in
    c.unsigned.ensures ∙ sym (number_plain word (starts_prefix minus word ∙ c.in-None.ensures.cases))
