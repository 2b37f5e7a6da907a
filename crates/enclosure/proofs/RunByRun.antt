-- A term, taken run by run: each run is the next part of the term's sum, and the sums so far fit as the whole does.
use mathlib.Core.Path.{◌≡◌, sym, ◌∙◌, ap, subst}
use mathlib.Core.Bool.{Bool, not}
use mathlib.Core.List.{List}
use Prim.Native.Nat.{ℕ, ◌-◌, ◌≤◌, ◌<◌, min}
use native.Mathlib.Omega.{arith}
use lib.IntN.{pos}
use lib.Signed.{◌≤ℤ◌}
use lib.ListN.{length}
use Rattle.algebra.specs.Sum.{accumulate}
use Rattle.algebra.proofs.Sum.{accumulate_zero, sum_parts}
use Rattle.enclosure.specs.declared.Entry.{Entry}
use Rattle.enclosure.specs.declared.run.Run.{Run}
use Rattle.enclosure.specs.declared.term.Factor.{Factor}
use Rattle.enclosure.specs.Entry.{none, plus, EntryFits}
use Rattle.enclosure.specs.Term.{TermRoom, line_at, line_factor, term_at}
use Rattle.enclosure.specs.Run.{FirstRun, RunRoom, upright, run_sums}
use Rattle.enclosure.proofs.Scaled.{plus_assoc, plus_comm, plus_none}
use Rattle.enclosure.proofs.Line.{upright_small, other_sign}
use Rattle.enclosure.proofs.Sizes.{factor_small, grown_fits}

module _ (sums : Entry) (f : Factor) (x : ℕ) (weights : List ℕ) (row : ℕ → Entry) (h : TermRoom sums f x weights row) where
  -- the sums after n severities
  abbrev pub so_far : ℕ → Entry
  so_far n = accumulate sums plus n (term_at (line_factor f weights) x row)

  module _ (from to : ℕ) (in_order : from ≤ to) (within : to ≤ min x (length weights)) where
    room : (below : Bool) → ((y : ℕ) → from < y → y ≤ to → pos 0 ≤ℤ line_at (upright f below) y)
        → RunRoom (upright f below) from to x weights row
    room below signs = record {
      factor_small = upright_small f below (factor_small sums f x weights row h);
      x_small = h.x_small;
      weights_small = h.weights_small;
      row_small = h.row_small;
      in_order = in_order;
      below_x = omega arith;
      weighted = omega arith;
      line_upright = signs;
    }

    next : plus (so_far from) (run_sums f from to x weights row) ≡ so_far to
    next = ap (λ (n : ℕ). plus (so_far n) (run_sums f from to x weights row)) (omega arith)
        ∙ sym (sum_parts none plus plus_assoc plus_comm plus_none sums to (to - from) _ (omega arith))

    fits : EntryFits (plus (so_far from) (run_sums f from to x weights row))
    fits = subst EntryFits (sym next) (grown_fits sums f x weights row h to (omega arith))

  module _ (last : ℕ) (all : last ≡ min x (length weights)) (first : Run) (is_first : FirstRun f last first) where
    before_first : so_far first.from ≡ sums
    before_first = ap so_far is_first.starts ∙ accumulate_zero _ _ _

    -- ---- the first run
    pub first_room : RunRoom (upright f first.negative) first.from first.to x weights row
    first_room = room first.from first.to (omega (arith, is_first.starts)) (omega (arith, is_first.within)) first.negative
        (λ y l k. is_first.inside y (omega arith) k)

    pub first_next : plus sums (run_sums f first.from first.to x weights row) ≡ so_far first.to
    first_next = ap (λ (e : Entry). plus e (run_sums f first.from first.to x weights row)) (sym before_first)
        ∙ next first.from first.to (omega (arith, is_first.starts)) (omega (arith, is_first.within))

    pub first_fits : EntryFits (plus sums (run_sums f first.from first.to x weights row))
    first_fits = rw (sym before_first) (fits first.from first.to (omega (arith, is_first.starts)) (omega (arith, is_first.within)))

    -- ---- the second
    pub second_room : RunRoom (upright f (not first.negative)) first.to last x weights row
    second_room = room first.to last is_first.within (omega arith) (not first.negative)
        (λ y l k. other_sign f first.negative y (is_first.behind y l k))

    pub second_next : plus (so_far first.to) (run_sums f first.to last x weights row) ≡ so_far last
    second_next = next first.to last is_first.within (omega arith)

    pub second_fits : EntryFits (plus (so_far first.to) (run_sums f first.to last x weights row))
    second_fits = fits first.to last is_first.within (omega arith)
