-- What `position` counts stands before the first b, and where it finds none, all does.
use mathlib.Core.Path.{◌≡◌, refl, sym, ◌∙◌}
use native.Mathlib.Omega.{arith}
use borrow.Author.Tests.{eq-eqb, ne_eqb, tests}
use lib.ListN.{length}
use Rattle.std.proofs.Common.{rules}
use Rattle.std.proofs.lemmas.Iterator.{YieldsList-from_slice, IsFirst-from_position, index_from_first}
use Rattle.text.specs.Lines.{before}
use Rattle.text.proofs.lines.until.Goals as goal

pub returns-clause-found : goal.returns-clause-found
unfolding before
returns-clause-found c =
    let b = c.args.b in
    let first = IsFirst-from_position _ _ _ (λ x. x ≡ b) (λ x. x ≡ b → ⊥) c.position.ensures.ran (YieldsList-from_slice c.args.s.now cc)
    (λ x q k. search (rules, tests)) (λ x q k. search (rules, tests)) in
    c.unwrap_or.ensures
    ∙ sym (index_from_first (λ s. length (before b s)) (λ x. x ≡ b) (λ x. x ≡ b → ⊥) refl
    (λ x s e. rw (eq-eqb x b e) refl) (λ x s e. rw (ne_eqb x b e) (omega arith)) c.args.s.now c.position.result first)
