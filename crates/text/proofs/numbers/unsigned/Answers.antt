-- Where the digits found are all of the word, `is_numeral` decides; elsewhere it is no number.
use mathlib.Core.Path.{sym, ap, ◌∙◌}
use mathlib.Core.Option.{some}
use native.Mathlib.Omega.{arith}
use mir.Syntax.{w64}
use mir.Facts.{to_z_pos}
use Rattle.text.proofs.Read.{number_other}
use Rattle.text.proofs.Leading.{word_digits, found_small, word_number, word_other}
use Rattle.text.proofs.numbers.unsigned.Goals as goal
use Rattle.text.proofs.numbers.unsigned.Goals.{else-digits-word-via-then-digits-word+else-is_numeral, else-digits-word-via-else-digits-word}

pub is_numeral-requires : goal.is_numeral-requires
is_numeral-requires c = word_digits c.args.word.now c.leading_digits-digits.result c.leading_digits-digits.ensures c.if-digits-word.true

pub overflow_cast-result : goal.overflow_cast-result
overflow_cast-result c =
    record { sfits = omega (arith, found_small c.args.word.now c.leading_digits-digits.result c.leading_digits-digits.ensures) }

pub returns-then-is_numeral : goal.returns-then-is_numeral
returns-then-is_numeral c =
    let called = c.leading_digits-digits in
    ap some (to_z_pos w64 (omega (arith, found_small c.args.word.now called.result called.ensures)))
    ∙ sym (word_number c.args.word.now called.result called.ensures c.if-digits-word.true (sym c.is_numeral.ensures ∙ c.if-is_numeral.true))

pub returns-else-digits-word : goal.returns-else-digits-word
returns-else-digits-word c =
    sym (elim c.else-digits-word.branch [
      | else-digits-word-via-then-digits-word+else-is_numeral w ↦ number_other c.args.word.now (sym w.is_numeral.ensures ∙ w.if-is_numeral.false)
      | else-digits-word-via-else-digits-word w ↦
          word_other c.args.word.now c.leading_digits-digits.result c.leading_digits-digits.ensures w.if-digits-word.false
    ])
