-- Where the checks refuse, nothing is written; where they accept, they say that there is room and that each layer lies within the rows.
use mathlib.Core.Path.{◌≡◌, sym, ap}
use mathlib.Core.List.{List}
use Prim.Native.Nat.{ℕ}
use native.Mathlib.Omega.{arith}
use lib.IntN.{ℤ}
use lib.ListN.{length}
use Rattle.std.proofs.Common.{rules, Err}
use Rattle.model.specs.Answer.{accepted, first_refusal}
use Rattle.layer.specs.declared.LayerList.{LayerList}
use Rattle.layer.specs.Call.{checks}
use Rattle.layer.specs.Room.{Writable}
use Rattle.layer.proofs.Passed.{CallPassed, call_passed}
use Rattle.layer.proofs.Returned.{refuses, accepts}
use Rattle.layer.proofs.layers.Goals as goal

pub returns-in_err-checked : goal.returns-in_err-checked
returns-in_err-checked c =
    let a = c.args in
    let is : c.from_residual.result ≡ Err c.in_err-checked.field-0.0 = search rules in
    rw is (refuses a.rows.low.now a.rows.high.now a.list.now a.answer_low.now a.answer_high.now _ c.in_err-checked.ensures.answer)

-- where no condition holds
module _ (low high : List ℤ) (list : LayerList) (low_places high_places : ℕ)
    (passes : accepted ≡ first_refusal (checks low high list low_places high_places)) where
  passed : CallPassed low high list low_places high_places
  passed = call_passed low high list low_places high_places (sym passes)

  -- either row, as both are as long as the lows
  low_writable : (places : ℕ) → places ≡ length low → Writable places list low_places
  low_writable places same =
      record { count_most = passed.count.most; count_fits = passed.count.low_room; fitting = rw same passed.fitting }

  high_writable : (places : ℕ) → places ≡ length low → Writable places list high_places
  high_writable places same =
      record { count_most = passed.count.most; count_fits = passed.count.high_room; fitting = rw same passed.fitting }

pub write_costs-requires : goal.write_costs-requires
write_costs-requires c =
    let a = c.args in
    let rows = c.in_ok-checked.checked in
    let lows : length rows.low.entries.now ≡ length a.rows.low.now = ap length c.in_ok-checked.ensures.same_rows.0 in
    low_writable a.rows.low.now a.rows.high.now a.list.now (length a.answer_low.now) (length a.answer_high.now)
    c.in_ok-checked.ensures.answer _ (search (arith, lows, rows.same_length))

pub write_costs-requires-2 : goal.write_costs-requires-2
write_costs-requires-2 c =
    let a = c.args in
    let rows = c.in_ok-checked.checked in
    let lows : length rows.low.entries.now ≡ length a.rows.low.now = ap length c.in_ok-checked.ensures.same_rows.0 in
    high_writable a.rows.low.now a.rows.high.now a.list.now (length a.answer_low.now) (length a.answer_high.now)
    c.in_ok-checked.ensures.answer _ lows

pub returns : goal.returns
returns c =
    let same = c.in_ok-checked.ensures.same_rows in
    simp (c.write_costs.ensures, c.write_costs-2.ensures, same.0, same.1) (accepts _ _ _ _ _ c.in_ok-checked.ensures.answer)
