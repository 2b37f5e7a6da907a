-- By what one turn of a run needs.
use mathlib.Core.Path.{◌≡◌, sym, ◌∙◌}
use Prim.Native.Nat.{◌+◌, ◌-◌}
use native.Mathlib.Nat as NL
use native.Mathlib.Omega.{arith}
use mir.Syntax.{w64}
use mir.Facts.{to_z-of_z}
use Rattle.algebra.proofs.Size.{held}
use Rattle.algebra.proofs.Sum.{accumulate_zero}
use Rattle.enclosure.specs.Term.{entries_of}
use Rattle.enclosure.specs.Run.{raised_term, raised_plus}
use Rattle.enclosure.proofs.Lowered.{turn}
use Rattle.enclosure.proofs.raised.raised_sums.Goals as goal

pub loop-i-init : goal.loop-i-init
loop-i-init c = record {
  sums = rw (NL.sub-zero, NL.sub_self) (sym (accumulate_zero _ _ _));
  line = rw NL.sub-zero (held w64 c.line_at-line.type_inv c.line_at-line.ensures);
}

pub product-f-requires : goal.product-f-requires
product-f-requires c =
    let to = c.args.run.to in
    let t = turn _ _ _ _ _ _ c.requires.run_room (to - c.loop-i.i) (to - (c.loop-i.i + 1)) (omega arith) (omega arith) (omega arith) in
    rw c.loop-i.invariant.line (omega (arith, t.line_small), omega (arith, t.weight_small))

pub add_entry-sums-requires-clause-add_room : goal.add_entry-sums-requires-clause-add_room
add_entry-sums-requires-clause-add_room c =
    let to = c.args.run.to in
    let t = turn _ _ _ _ _ _ c.requires.run_room (to - c.loop-i.i) (to - (c.loop-i.i + 1)) (omega arith) (omega arith) (omega arith) in
    let factor = (rw c.loop-i.invariant.line at c.product-f.ensures) ∙ t.factor_is in
    rw (factor, c.loop-i.invariant.sums) t.room

pub overflow_sub-line : goal.overflow_sub-line
overflow_sub-line c =
    let to = c.args.run.to in
    let t = turn _ _ _ _ _ _ c.requires.run_room (to - c.loop-i.i) (to - (c.loop-i.i + 1)) (omega arith) (omega arith) (omega arith) in
    rw (c.loop-i.invariant.line, to_z-of_z t.slope_fits, t.line_next) t.line_fits

pub loop-i-preserved : goal.loop-i-preserved
loop-i-preserved c =
    let to = c.args.run.to in
    let t = turn _ _ _ _ _ _ c.requires.run_room (to - c.loop-i.i) (to - (c.loop-i.i + 1)) (omega arith) (omega arith) (omega arith) in
    let factor = (rw c.loop-i.invariant.line at c.product-f.ensures) ∙ t.factor_is in
    let entry = entries_of c.args.row.now (c.args.x - (c.args.run.to - (c.loop-i.i + 1) + 1)) in
    record {
      sums = c.add_entry-sums.ensures ∙ (λ i. raised_plus (c.loop-i.invariant.sums i) (raised_term (factor i) entry)) ∙ t.sums_next;
      line = rw (c.loop-i.invariant.line, to_z-of_z t.slope_fits, t.line_next) (to_z-of_z t.line_fits);
    }

pub returns : goal.returns
returns c =
    let all : c.args.run.to - (c.args.run.to - c.loop-i.i) ≡ c.args.run.to - c.args.run.from = omega arith in
    rw all at c.loop-i.invariant.sums
