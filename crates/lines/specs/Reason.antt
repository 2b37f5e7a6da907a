-- The paper's numbers of the reader's refusals.
use Rattle.std.specs.Prelude.{ℕ}
use Rattle.lines.specs.declared.Reason.{Reason}
use Rattle.lines.specs.declared.Reason.TheVariants.{Size, Missing, Form, Word, Limit, Excess, Places}

abbrev pub number_of : Reason → ℕ
number_of Size = 21
number_of Missing = 22
number_of Form = 23
number_of Word = 24
number_of Limit = 25
number_of Excess = 26
number_of Places = 27
