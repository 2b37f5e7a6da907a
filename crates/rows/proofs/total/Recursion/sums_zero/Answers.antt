-- The next turn adds the next term's sums.
use Rattle.std.proofs.Common.{◌≡◌, sym, ◌∙◌, rules}
use Rattle.algebra.proofs.Sum.{accumulate_zero}
use Rattle.enclosure.specs.Entry.{none, plus}
use Rattle.rows.specs.Lent.{shared_entries}
use Rattle.rows.specs.Progress.{term_factor}
use Rattle.rows.proofs.Sums.{ready_in, terms_more, terms_all, term_room}
use Rattle.rows.proofs.total.Recursion.sums_zero.Goals as goal

pub loop-i-init : goal.loop-i-init
loop-i-init c = sym (accumulate_zero none plus _)

pub add_row-sums-requires-clause-term_room : goal.add_row-sums-requires-clause-term_room
add_row-sums-requires-clause-term_room c =
    let r = c.args.self.now in
    rw (c.loop-i.invariant, c.term_factor.ensures.factor)
    (term_room _ _ _ _ (ready_in r.limits c.requires).basis c.loop-i.i (search rules))

pub loop-i-preserved : goal.loop-i-preserved
loop-i-preserved c =
    let r = c.args.self.now in
    (rw (c.loop-i.invariant, c.term_factor.ensures.factor) at c.add_row-sums.ensures)
    ∙ terms_more (term_factor r.job.law.a r.job.law.b c.args.x) r.weights.now c.args.x (shared_entries c.args.rows.now) c.loop-i.i

pub returns : goal.returns
returns c =
    let r = c.args.self.now in
    let all : c.loop-i.i ≡ r.job.law.order = search rules in
    rw all at c.loop-i.invariant ∙ terms_all r.job.law r.weights.now c.args.x (shared_entries c.args.rows.now)
