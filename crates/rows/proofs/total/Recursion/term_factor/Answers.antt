-- The factor of a term within the limits is small.
use Rattle.std.proofs.Common.{◌≡◌, ◌<◌, ◌≤◌, ℕ, sym, subst, rules}
use Rattle.model.specs.declared.Law.{Law}
use Rattle.model.specs.Limits.{most_order, most_last}
use Rattle.enclosure.specs.declared.term.Factor.{Factor}
use Rattle.enclosure.specs.Run.{FactorSmall}
use Rattle.rows.specs.Limits.{LawLimits}
use Rattle.rows.specs.Progress.{term_factor}
use Rattle.rows.proofs.MarkRule.{term_factor_small}
use Rattle.rows.proofs.total.Recursion.term_factor.Goals as goal

small : (law : Law) → LawLimits law → (x i : ℕ) → x ≤ most_last → i < most_order → (f : Factor) → f ≡ term_factor law.a law.b x i
    → FactorSmall f
small law limits x i h l f e = subst FactorSmall (sym e) (term_factor_small law limits x h i l)

pub returns-clause-small : goal.returns-clause-small
returns-clause-small c =
    let r = c.args.self.now in
    small r.job.law r.limits.law c.args.x c.args.i c.requires.1 c.requires.0 _ (search rules)
