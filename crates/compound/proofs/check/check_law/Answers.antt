-- 3: where the chain finds a term it is the paper's, and where it finds none that is past the last.
use Rattle.std.proofs.Common.{arith}
use Rattle.std.proofs.lemmas.Bool.Decides.{nat_tests}
use Rattle.model.specs.Answer.{first_refusal}
use Rattle.compound.specs.Call.{wrong_term}
use Rattle.compound.proofs.WrongTerm.{found}
use Rattle.compound.proofs.check.check_law.Goals as goal

pub returns-in-Some : goal.returns-in-Some
unfolding first_refusal
returns-in-Some c =
    let wrong = rw c.in-Some.is at (found (wrong_term c.args.law) c.first_wrong_term.result c.first_wrong_term.ensures) in
    grind (arith, nat_tests)

pub returns : goal.returns
unfolding first_refusal
returns c =
    let none = rw c.in_default.is at (found (wrong_term c.args.law) c.first_wrong_term.result c.first_wrong_term.ensures) in
    grind (arith, nat_tests)
