-- The number and the rest of a good line are those that the definition tells.
use mathlib.Core.Path.{sym}
use Rattle.lines.proofs.Weight.{good_weight}
use Rattle.lines.proofs.line.read_weight.Goals as goal

pub returns-in-Some-clause-parsed : goal.returns-in-Some-clause-parsed
returns-in-Some-clause-parsed c = sym (good_weight c.args.rest.now (sym c.in-Some.ensures.found))
