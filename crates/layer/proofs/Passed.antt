-- What an acceptance says: no condition holds, so the rows are as in a level query, the list is short enough, and each layer lies within
-- the rows.
use mathlib.Core.Path.{◌≡◌, sym}
use mathlib.Core.Bool.{false, ◌||◌}
use mathlib.Core.List.{List}
use mathlib.Core.Logic.{◌⊎◌, inl, inr}
use Prim.Native.Nat.{ℕ, zero, suc, ◌+◌, ◌≤◌, ◌<◌}
use native.Mathlib.Nat as NL
use native.Mathlib.Omega.{arith}
use borrow.Author.Tests.{ltb-true, ltb-false, not-false}
use lib.Dec.{ltb}
use lib.IntN.{ℤ}
use lib.ListN.{length, get_or}
use Rattle.algebra.proofs.Or.{or_left, or_right}
use Rattle.model.specs.Answer.{accepted, first_refusal}
use Rattle.model.specs.Limits.{outside}
use Rattle.model.proofs.Answer.{none_holds}
use Rattle.model.proofs.Tests.{within}
use Rattle.intervals.proofs.Passed.{Passed, passed}
use Rattle.layer.specs.declared.LayerList.{LayerList}
use Rattle.layer.specs.Call.{attachment, limit, most_layers, wrong_count}
use Rattle.layer.specs.Call.{list_checks, layer_conditions, layer_checks, all_layer_checks, checks}
use Rattle.layer.specs.Room.{Fitting}

-- 61
pub record Counted (count low_places high_places : ℕ) : Type 0 where
  pub most : count ≤ most_layers
  pub low_room : count ≤ low_places
  pub high_room : count ≤ high_places

pub counted : (count low_places high_places : ℕ) → wrong_count count low_places high_places ≡ false → Counted count low_places high_places
counted count low high e =
    let rooms = or_right (outside 1 most_layers count) (ltb low count || ltb high count) e in
    record {
      most = (within 1 most_layers count (or_left (outside 1 most_layers count) (ltb low count || ltb high count) e)).1;
      low_room = ltb-false low count (or_left (ltb low count) (ltb high count) rooms);
      high_room = ltb-false high count (or_right (ltb low count) (ltb high count) rooms);
    }

-- 62 and 63, of n layers from layer i on
layers_passed : (places : ℕ) (attachments limits : List ℕ) (n i : ℕ) → first_refusal (layer_checks places attachments limits n i) ≡ accepted
    → (k : ℕ) → i ≤ k → k < n + i → Fitting places (get_or attachments k 0) (get_or limits k 0)
unfolding layer_checks
layers_passed places attachments limits zero i e k le l = absurd (NL.lt_irrefl k (omega arith))
layers_passed places attachments limits (suc n) i e k le l =
    let c = get_or attachments i 0 in
    let d = get_or limits i 0 in
    let fails = none_holds (layer_conditions places c d i) (layer_checks places attachments limits n (suc i)) tt e in
    by (record { ordered = ltb-true c d (not-false _ (fails.0 62)); within = ltb-false places d (fails.0 63) })
    (layers_passed places attachments limits n (suc i) fails.1 k) (NL.eq-or-lt_of_le le)
  where
    by : Fitting places (get_or attachments i 0) (get_or limits i 0)
        → (suc i ≤ k → k < n + suc i → Fitting places (get_or attachments k 0) (get_or limits k 0))
        → (i ≡ k) ⊎ (i < k) → Fitting places (get_or attachments k 0) (get_or limits k 0)
    by this later (inl same) = rw (sym same) this
    by this later (inr less) = later less (omega arith)

-- all of them
pub record CallPassed (low high : List ℤ) (list : LayerList) (low_places high_places : ℕ) : Type 0 where
  pub rows : Passed low high
  pub count : Counted list.count low_places high_places
  pub fitting : (i : ℕ) → i < list.count → Fitting (length low) (attachment list i) (limit list i)

pub call_passed : (low high : List ℤ) (list : LayerList) (low_places high_places : ℕ)
    → first_refusal (checks low high list low_places high_places) ≡ accepted → CallPassed low high list low_places high_places
call_passed low high list low_places high_places e =
    let fails = none_holds (list_checks low high list.count low_places high_places) (all_layer_checks (length low) list) tt e in
    record {
      rows = passed low high (fails.0 31) (fails.0 33);
      count = counted list.count low_places high_places (fails.0 61);
      fitting = λ i l. layers_passed _ list.attachments list.limits list.count 0 fails.1 i (omega arith) (omega arith);
    }
