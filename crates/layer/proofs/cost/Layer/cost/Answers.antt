-- The loop's invariant: `saved` is the sum of saving times entry below this total. It begins at the attachment, where that is the width
-- times the sum of the entries.
use mathlib.Core.Path.{◌≡◌, ◌∙◌, ap}
use mathlib.Core.List.{List}
use Prim.Native.Nat.{ℕ, suc, ◌+◌, ◌*◌, ◌-◌, ◌≤◌, ◌<◌, ◌^◌}
use native.Mathlib.Nat as NL
use native.Mathlib.Omega.{arith}
use lib.IntN.{ℤ, pos, ◌+ℤ◌, ◌*ℤ◌}
use lib.Signed.{mag}
use lib.ListN.{length, get_or, take, drop, length-take, length-drop}
use mir.Syntax.{w64}
use mir.Val.{SFits, to_z, of_z}
use mir.Facts.{to_z-of_z, to_z_pos}
use Rattle.std.proofs.lemmas.List.{get_or-take, get_or-drop}
use Rattle.algebra.specs.Sum.{accumulate, sumℤ}
use Rattle.algebra.proofs.Size.{held, size_fits, size_mul_le}
use Rattle.model.specs.Limits.{unit, most_totals}
use Rattle.intervals.proofs.Sums.{sum_before, sum_small}
use Rattle.intervals.specs.declared.SummableRow.{SummableRow}
use Rattle.layer.specs.declared.cost.Layer.{Layer}
use Rattle.layer.specs.Layer.{saving, cost_by}
use Rattle.layer.specs.Room.{Fitting}
use Rattle.layer.proofs.Saving.{saving_from}
use Rattle.layer.proofs.Sizes.{product, saved_before, before_attachment, product_fits, sum_fits, whole_fits, cost_fits}
use Rattle.layer.proofs.cost.Layer.cost.Goals as goal

module _ (row : SummableRow) (layer : Layer) (fit : Fitting (length row.entries.now) layer.attachment layer.limit) where
  abbrev entries : List ℤ
  entries = row.entries.now

  abbrev c : ℕ
  c = layer.attachment

  abbrev d : ℕ
  d = layer.limit

  width_is : to_z w64 (d - c) ≡ pos (d - c)
  width_is = to_z_pos w64 (omega (arith, fit.within, row.summable.short))

  -- before the loop
  begun : {below : ℤ} → mag below < 2 ^ 63 → below ≡ sumℤ c (λ x. get_or entries x (pos 0))
      → to_z w64 (d - c) *ℤ to_z w64 (of_z w64 below) ≡ saved_before entries c d c
  begun fits e = (λ i. width_is i *ℤ held w64 fits e i) ∙ before_attachment entries c d

  -- whatever total the entries were added up to
  begun_fits : {below : ℤ} {n : ℕ} → mag below < 2 ^ 63 → below ≡ sum_before entries n → n ≤ length entries
      → SFits w64 (to_z w64 (d - c) *ℤ to_z w64 (of_z w64 below))
  begun_fits {below} {n} fits e le =
      size_fits w64 _ (omega (
        arith,
        size_mul_le (to_z w64 (d - c)) (to_z w64 (of_z w64 below)) most_totals (most_totals * (2 * unit))
            (rw width_is (omega (arith, fit.within, row.summable.short)))
            (rw (held w64 fits e) (sum_small entries row.summable n le)),
      ))

  -- the entries from the attachment to the limit
  abbrev part : List ℤ
  part = take (d - c) (drop c entries)

  part_length : length part ≡ d - c
  part_length = omega (arith, length-take (d - c) (drop c entries), length-drop c entries, fit.within)

  -- a turn
  module _ (past : ℕ) (l : past < length part) where
    before_limit : c + past < d
    before_limit = omega (arith, l, part_length)

    abbrev term : ℤ
    term = to_z w64 (d - c - past) *ℤ to_z w64 (of_z w64 (get_or part past (pos 0)))

    entry_held : to_z w64 (of_z w64 (get_or part past (pos 0))) ≡ get_or entries (c + past) (pos 0)
    entry_held =
        ap (λ (z : ℤ). to_z w64 (of_z w64 z))
        (get_or-take (d - c) (drop c entries) past (pos 0) (omega (arith, before_limit)) ∙ get_or-drop c entries past (pos 0))
        ∙ to_z-of_z (size_fits w64 (get_or entries (c + past) (pos 0))
        (omega (arith, row.summable.small (c + past) (omega (arith, before_limit, fit.within)))))

    left_is : to_z w64 (d - c - past) ≡ pos (saving c d (c + past))
    left_is =
        to_z_pos w64 (omega (arith, fit.within, row.summable.short))
        ∙ ap pos (omega (arith, saving_from c d (c + past) (omega arith)))

    term_is : term ≡ product entries c d (c + past)
    term_is = λ i. left_is i *ℤ entry_held i

    pub term_fits : SFits w64 term
    term_fits = rw term_is (product_fits entries c d row.summable fit (c + past) before_limit)

    -- the sum with the turn's product
    summed_fits : SFits w64 (saved_before entries c d (suc (c + past)))
    summed_fits = sum_fits entries c d row.summable fit (suc (c + past)) (omega (arith, before_limit))

    module _ {saved : ℤ} (before : saved ≡ saved_before entries c d (c + past)) where
      summed : saved +ℤ to_z w64 (of_z w64 term) ≡ saved_before entries c d (suc (c + past))
      unfolding accumulate
      summed = λ i. before i +ℤ (to_z-of_z term_fits ∙ term_is) i

      added_fits : SFits w64 (saved +ℤ to_z w64 (of_z w64 term))
      added_fits = rw summed summed_fits

      added_held : to_z w64 (of_z w64 (saved +ℤ to_z w64 (of_z w64 term))) ≡ saved_before entries c d (c + (past + 1))
      added_held =
          to_z-of_z added_fits ∙ summed ∙ let next : suc (c + past) ≡ c + (past + 1) = omega arith in ap (saved_before entries c d) next

  -- after the loop
  whole_held : to_z w64 (of_z w64 (to_z w64 (d - c) *ℤ pos 1000000000)) ≡ pos (d - c) *ℤ pos 1000000000
  whole_held = rw width_is (to_z-of_z (whole_fits entries c d row.summable fit))

  module _ {saved : ℤ} {past : ℕ} (within : past ≤ length part) (past_end : length part ≤ past)
      (is : saved ≡ saved_before entries c d (c + past)) where
    all_saved : saved ≡ saved_before entries c d d
    all_saved = let end : c + past ≡ d = omega (arith, within, past_end, part_length, fit.ordered) in is ∙ ap (saved_before entries c d) end

pub overflow_mul-saved : goal.overflow_mul-saved
overflow_mul-saved c =
    begun_fits c.args.row c.args.self c.requires c.sum_below.type_inv c.sum_below.ensures
    (omega (arith, c.requires.ordered, c.requires.within))

pub loop-past-init : goal.loop-past-init
loop-past-init c =
    let begins = begun_fits c.args.row c.args.self c.requires c.sum_below.type_inv c.sum_below.ensures
    (omega (arith, c.requires.ordered, c.requires.within)) in
    rw NL.add-zero (to_z-of_z begins ∙ begun c.args.row c.args.self c.requires c.sum_below.type_inv c.sum_below.ensures)

pub overflow_mul-saved-in-loop-past : goal.overflow_mul-saved-in-loop-past
overflow_mul-saved-in-loop-past c = term_fits c.args.row c.args.self c.requires c.loop-past.past c.loop-past-test.true

pub overflow_add-saved : goal.overflow_add-saved
overflow_add-saved c = added_fits c.args.row c.args.self c.requires c.loop-past.past c.loop-past-test.true c.loop-past.invariant

pub loop-past-preserved : goal.loop-past-preserved
loop-past-preserved c = added_held c.args.row c.args.self c.requires c.loop-past.past c.loop-past-test.true c.loop-past.invariant

pub overflow_sub-result : goal.overflow_sub-result
unfolding cost_by
overflow_sub-result c =
    let all = all_saved c.args.row c.args.self c.requires c.loop-past.auto.past-end c.loop-past-test.false c.loop-past.invariant in
    rw (whole_held c.args.row c.args.self c.requires, all)
    (cost_fits c.args.row.entries.now c.args.self.attachment c.args.self.limit c.args.row.summable c.requires)

pub returns : goal.returns
unfolding cost_by
returns c =
    let all = all_saved c.args.row c.args.self c.requires c.loop-past.auto.past-end c.loop-past-test.false c.loop-past.invariant in
    rw (whole_held c.args.row c.args.self c.requires, all)
    (to_z-of_z (cost_fits c.args.row.entries.now c.args.self.attachment c.args.self.limit c.args.row.summable c.requires))
