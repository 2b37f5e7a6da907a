-- An accepted call's answer rows hold the layers' costs (`low_is`, `high_is`), and what is paid lies between these.
use mathlib.Core.Path.{◌≡◌, sym, ◌∙◌, ap}
use mathlib.Core.List.{List}
use Prim.Native.Nat.{ℕ, ◌≤◌, ◌<◌}
use native.Mathlib.Omega.{arith}
use lib.IntN.{ℤ, pos}
use lib.ListN.{length, get_or, drop, get_or-append}
use Rattle.algebra.specs.Slice.{written}
use Rattle.algebra.specs.Fraction.{Fraction, ◌≈◌, ◌≼◌}
use Rattle.algebra.proofs.Order.{le_of_eq}
use Rattle.algebra.proofs.Slice.{listed_length, listed_at}
use Rattle.algebra.proofs.Value.{order, value_eq, le_of_value, ≼_trans}
use Rattle.model.specs.Answer.{accepted}
use Rattle.layer.specs.declared.LayerList.{LayerList}
use Rattle.layer.specs.Layer.{cost_by}
use Rattle.layer.specs.Call.{attachment, limit, costs_by, LayerCosts, tells_costs, layer_costs}
use Rattle.layer.specs.Enclosed.{Accepted, low_cost, high_cost, EnclosesLayer, LayerInOrder, LayerSmall, EnclosesContinued}
use Rattle.layer.proofs.Sizes.{cost_small}
use Rattle.layer.proofs.Passed.{CallPassed, call_passed}
use Rattle.layer.proofs.Returned.{accepts}
use Rattle.layer.proofs.Paid.{least, most, in_order}

module _ (low high : List ℤ) (list : LayerList) (answer_low answer_high : List ℤ) (ok : Accepted low high list answer_low answer_high) where
  passed : CallPassed low high list (length answer_low) (length answer_high)
  unfolding layer_costs
  passed = call_passed low high list (length answer_low) (length answer_high) ok

  -- what the answer rows hold
  costs : tells_costs accepted (written (costs_by high list) answer_low) (written (costs_by low list) answer_high)
      ≡ layer_costs low high list answer_low answer_high
  unfolding layer_costs
  costs = accepts low high list answer_low answer_high (sym ok)

  module _ (i : ℕ) (l : i < list.count) where
    at : (row answers : List ℤ) → get_or (written (costs_by row list) answers) i (pos 0) ≡ cost_by row (attachment list i) (limit list i)
    at row answers =
        get_or-append (costs_by row list) (drop (length (costs_by row list)) answers) (pos 0) i (rw (listed_length cost list.count) l)
        ∙ listed_at cost list.count i (pos 0) l
      where
        cost : ℕ → ℤ
        cost k = cost_by row (attachment list k) (limit list k)

    low_is : low_cost low high list answer_low answer_high i ≡ cost_by high (attachment list i) (limit list i)
    low_is = ap (λ (k : LayerCosts). get_or k.low i (pos 0)) (sym costs) ∙ at high answer_low

    high_is : high_cost low high list answer_low answer_high i ≡ cost_by low (attachment list i) (limit list i)
    high_is = ap (λ (k : LayerCosts). get_or k.high i (pos 0)) (sym costs) ∙ at low answer_high

    within : limit list i ≤ length low
    within = (passed.fitting i l).within

pub encloses_layer : EnclosesLayer
encloses_layer low high list answer_low answer_high ok i l g amounts =
    let c = attachment list i in
    let d = limit list i in (
      rw (low_is low high list answer_low answer_high ok i l) (least c d g low high amounts),
      rw (high_is low high list answer_low answer_high ok i l) (most c d g low high amounts),
    )

pub layer_in_order : LayerInOrder
layer_in_order low high list answer_low answer_high ok i l =
    let inside = within low high list answer_low answer_high ok i l in
    rw (low_is low high list answer_low answer_high ok i l, high_is low high list answer_low answer_high ok i l)
    (in_order _ _ low high (λ x k. (passed low high list answer_low answer_high ok).rows.ordered x (omega (arith, inside))))

pub layer_small : LayerSmall
layer_small low high list answer_low answer_high ok i l =
    let passes = passed low high list answer_low answer_high ok in
    let fit = passes.fitting i l in
    let c = attachment list i in
    let d = limit list i in (
      rw (low_is low high list answer_low answer_high ok i l)
          (omega (arith, cost_small high c d passes.rows.high_summable (rw (sym passes.rows.same) fit))),
      rw (high_is low high list answer_low answer_high ok i l) (omega (arith, cost_small low c d passes.rows.low_summable fit)),
    )

-- ---- amounts that go on
le_of_same : {x y : Fraction} → x ≈ y → x ≼ y
le_of_same e = le_of_value (le_of_eq order (value_eq e))

ge_of_same : {x y : Fraction} → x ≈ y → y ≼ x
ge_of_same e = le_of_value (le_of_eq order (sym (value_eq e)))

pub encloses_continued : EnclosesContinued
encloses_continued low high amount inside list answer_low answer_high ok i l g continues =
    let below = within low high list answer_low answer_high ok i l in
    encloses_layer low high list answer_low answer_high ok i l g (record {
      complete = continues.complete;
      above_low = λ x k. ≼_trans (inside x (omega (arith, below))).0 (ge_of_same (continues.begins x (omega arith)));
      below_high = λ x k. ≼_trans (le_of_same (continues.begins x (omega arith))) (inside x (omega (arith, below))).1;
    })
