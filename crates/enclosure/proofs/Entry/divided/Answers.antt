-- There is room for one more than the bound's quotient, and so for the allowance.
use borrow.Author.Rules.{rules}
use mathlib.Core.Path.{◌≡◌, ap₂}
use lib.IntN.{◌+ℤ◌}
use mir.Syntax.{w64}
use mir.Val.{SFits, to_z, of_z}
use mir.Facts.{to_z-of_z}
use Rattle.algebra.proofs.Size.{held}
use Rattle.outward.specs.Division.{ceil_div}
use Rattle.enclosure.specs.Entry.{allowance, rounded}
use Rattle.enclosure.proofs.Scaled.{same_entry}
use Rattle.enclosure.proofs.Rounded.{allowance_fits}
use Rattle.enclosure.proofs.Entry.divided.Goals as goal

module _ (c : goal.After-allowance) where
  quotient_is : c.ceil_div-bound.result ≡ ceil_div c.args.self.bound c.args.divisor
  quotient_is = search rules

  bound_is : to_z w64 (of_z w64 c.ceil_div-bound.result) +ℤ to_z w64 (of_z w64 c.allowance.result)
      ≡ ceil_div c.args.self.bound c.args.divisor +ℤ allowance c.args.divisor
  bound_is = ap₂ ◌+ℤ◌ (held w64 c.ceil_div-bound.type_inv quotient_is) (held w64 c.allowance.type_inv c.allowance.ensures)

  bound_fits : SFits w64 (ceil_div c.args.self.bound c.args.divisor +ℤ allowance c.args.divisor)
  bound_fits = allowance_fits _ c.args.divisor (record { sfits = rw quotient_is at c.ceil_div-bound.type_inv }) c.requires.2

pub overflow_add-entry : goal.overflow_add-entry
overflow_add-entry c = rw (bound_is c) (bound_fits c)

pub returns-clause-entry : goal.returns-clause-entry
unfolding rounded
returns-clause-entry c =
    let d = c.before in
    same_entry (search rules) (search rules) (rw (bound_is d) (to_z-of_z (bound_fits d)))
