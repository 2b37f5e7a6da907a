-- The known keep the sum exact, and the others are looked at.
use borrow.Author.Rules.{rules}
use borrow.Author.Tests.{tests}
use mathlib.Core.Path.{◌≡◌, refl, ◌∙◌, ap}
use Prim.Native.Nat.{ℕ, ◌+◌, ◌-◌, ◌≤◌, ◌<◌, min}
use native.Mathlib.Omega.{arith}
use lib.ListN.{length, get_or}
use Rattle.algebra.specs.Sum.{all_of}
use Rattle.algebra.proofs.And.{HoldBelow}
use Rattle.std.proofs.lemmas.Iterator.{serves_from_Range, YieldsList-from_range}
use Rattle.std.proofs.lemmas.Iterator.Search.{all_from_yields_List}
use Rattle.enclosure.specs.Term.{line_factor}
use Rattle.enclosure.specs.Mark.{number_in, exact_in, term_keeps}
use Rattle.enclosure.proofs.Sizes.{one_weight}
use Rattle.enclosure.proofs.Exact.{rest_of, known_keeps}
use Rattle.enclosure.proofs.marks.are_exact.Goals as goal

pub all-requires-clause-callable : goal.all-requires-clause-callable
all-requires-clause-callable c = serves_from_Range (λ y q r. search rules) (λ y l k.
    let below : y < c.args.x = omega arith in
    let inside : y < length c.args.weights.now = omega arith in
    let weight : get_or c.args.weights.now y 0 ≤ 1000 = omega (arith, one_weight y c.args.weights.now, c.requires.factor_small.2) in
    search rules)

pub returns : goal.returns
returns c =
    let a = c.args in
    let row = a.row.now in
    let test = term_keeps (line_factor a.factor a.weights.now) a.x (number_in row.low.now) (number_in row.high.now)
    (exact_in row.mark.now) in
    let first = c.min-first.result in
    let known : HoldBelow test first = known_keeps a.factor a.weights.now a.settled a.x c.min-last.result (number_in row.low.now)
    (number_in row.high.now) (exact_in row.mark.now) c.requires.settled_row c.known_from-known.result c.known_from-known.ensures first
    (omega arith) (omega arith) in
    let all : first + (c.min-last.result - first) ≡ min a.x (length a.weights.now) = omega arith in
    all_from_yields_List test _ _ c.all.result c.all.ensures.ran (YieldsList-from_range _ _ _ refl refl) (λ y b q k. search (rules, tests))
    ∙ rest_of test first _ known ∙ ap (λ (n : ℕ). all_of n test) all
