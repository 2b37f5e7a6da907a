-- A loop over the layers of a list, by pairs of an attachment and a limit with their numbers: in each turn it has the next layer, and it
-- ends behind the last.
use mathlib.Core.Path.{◌≡◌, ap, ◌∙◌}
use mathlib.Core.List.{List}
use Prim.Native.Nat.{ℕ, ◌≤◌, ◌<◌}
use native.Mathlib.Nat.{zero-add}
use native.Mathlib.Omega.{arith}
use denote.Ref.{Bor}
use lib.ListN.{length, take, length-take}
use Rattle.std.specs.Prelude.{Option, Some, None, zip}
use Rattle.std.specs.declared.iter.Enumerate.{Enumerate}
use Rattle.std.specs.declared.iter.Zip.{Zip}
use Rattle.std.specs.Iterator.{Yields}
use Rattle.std.specs.Iterator.Adapters.{enumerate_source, enumerate_count, enumerate_steps, zip_first, zip_second}
use Rattle.std.specs.List.{enumerate_from}
use Rattle.std.specs.Slice.Iter.{iter_rest}
use Rattle.std.proofs.Common.{Iter}
use Rattle.std.proofs.iter.Yields.{fronts}
use Rattle.std.proofs.lemmas.Iterator.{YieldsList, zips, YieldsList-from_slice, YieldsList-from_zip}
use Rattle.std.proofs.lemmas.Iterator.Consumers.{YieldsList-from_enumerate, YieldsList-turn, YieldsList-end}
use Rattle.std.proofs.lemmas.List.{get_or-take, get_or_default}
use Rattle.std.proofs.lemmas.List.FromFn.{length-enumerate_from, get_or-enumerate_from}
use Rattle.std.proofs.lemmas.Slice.Zip.{length-zip, get_or-zip}
use Rattle.layer.specs.declared.LayerList.{LayerList}
use Rattle.layer.specs.Call.{attachment, limit, most_layers}

-- the iterator, and what an item of it is
abbrev pub Walk : Type 0
Walk = Enumerate (Zip (Iter ℕ) (Iter ℕ))

abbrev pub Item : Type 0
Item = ℕ × (Bor ℕ × Bor ℕ)

-- before its first item, over the first places of both arrays
pub record Begins (list : LayerList) (s : Walk) : Type 0 where
  pub short : list.count ≤ most_layers
  pub first_long : length list.attachments ≡ most_layers
  pub second_long : length list.limits ≡ most_layers
  pub first : iter_rest (zip_first (enumerate_source s)) ≡ take list.count list.attachments
  pub second : iter_rest (zip_second (enumerate_source s)) ≡ take list.count list.limits
  pub number : enumerate_count s ≡ 0

-- the turn has layer i, where i turns were before it
pub record Turn (list : LayerList) (i place c d : ℕ) : Type 0 where
  pub below : i < list.count
  pub number : place ≡ i
  pub begins : c ≡ attachment list i
  pub ends : d ≡ limit list i

module _ {list : LayerList} {s : Walk} (begins : Begins list s) where
  abbrev pairs : List (ℕ × ℕ)
  pairs = zip (take list.count list.attachments) (take list.count list.limits)

  first_length : length (take list.count list.attachments) ≡ list.count
  first_length = omega (arith, length-take list.count list.attachments, begins.short, begins.first_long)

  second_length : length (take list.count list.limits) ≡ list.count
  second_length = omega (arith, length-take list.count list.limits, begins.short, begins.second_long)

  pairs_length : length pairs ≡ list.count
  pairs_length = omega (arith, length-zip (take list.count list.attachments) (take list.count list.limits), first_length, second_length)

  module _ (xs : List Item) (t : Walk) (yielded : Yields (enumerate_steps (zips fronts fronts)) s xs t) (r : Option Item) (u : Walk)
      (step : enumerate_steps (zips fronts fronts) t r u) where
    gives : YieldsList (enumerate_steps (zips fronts fronts)) (λ p. (p.0, (p.1.0.now, p.1.1.now))) s (enumerate_from 0 pairs)
    gives =
        YieldsList-from_enumerate
        (YieldsList-from_zip (YieldsList-from_slice _ begins.first) (YieldsList-from_slice _ begins.second)) begins.number

    pub turn : (place : ℕ) (c d : Bor ℕ) → r ≡ Some (place, (c, d)) → Turn list (length xs) place c.now d.now
    turn place c d is =
        let next = YieldsList-turn gives xs t yielded r u (place, (c, d)) is step in
        let below : length xs < list.count = omega (arith, next.0, length-enumerate_from 0 pairs, pairs_length) in
        let same = next.1 ∙ get_or-enumerate_from 0 pairs (length xs) (place, (c.now, d.now)) (omega (arith, below, pairs_length)) in
        let pair = get_or-zip (take list.count list.attachments) (take list.count list.limits) (length xs) (c.now, d.now)
        (omega (arith, below, first_length)) (omega (arith, below, second_length)) in
        record {
          below = below;
          number = ap (λ (p : ℕ × (ℕ × ℕ)). p.0) same ∙ zero-add (length xs);
          begins =
              ap (λ (p : ℕ × (ℕ × ℕ)). p.1.0) same ∙ ap (λ (p : ℕ × ℕ). p.0) pair
              ∙ get_or-take list.count list.attachments (length xs) c.now below
              ∙ get_or_default list.attachments (length xs) c.now 0 (omega (arith, below, begins.short, begins.first_long));
          ends =
              ap (λ (p : ℕ × (ℕ × ℕ)). p.1.1) same ∙ ap (λ (p : ℕ × ℕ). p.1) pair
              ∙ get_or-take list.count list.limits (length xs) d.now below
              ∙ get_or_default list.limits (length xs) d.now 0 (omega (arith, below, begins.short, begins.second_long));
        }

    pub ended : r ≡ None → length xs ≡ list.count
    ended is = omega (arith, (YieldsList-end gives xs t yielded r u is step).1, length-enumerate_from 0 pairs, pairs_length)
