-- The record at a later total begins with the record at an earlier one.
use mathlib.Core.Path.{◌≡◌, refl, ap, ◌∙◌}
use mathlib.Core.List.{List, []}
use Prim.Native.Nat.{ℕ, zero, suc, ◌+◌, ◌-◌, ◌<◌}
use native.Mathlib.Nat as NL
use native.Mathlib.Omega.{arith}
use lib.ListN.{length, get_or, length-append, get_or-append}
use lib.Seq.{get_or_at}
use Rattle.algebra.specs.Tabled.{Grid, recorded, with_next, history, tabled, Agree, TabledRule}
use Rattle.algebra.proofs.Slice.{listed_at}

module _ {A : Type 0} (none : A) (order : ℕ) (rule : Grid A → Grid A) where
  abbrev past : ℕ → List (List A)
  past = history none order rule

  history_length : (n : ℕ) → length (past n) ≡ n
  unfolding history with_next
  history_length zero = refl
  history_length (suc n) = simp length-append (omega (arith, history_length n))

  -- d totals more leave the first n as they are
  history_kept : (d n z : ℕ) → z < n → get_or (past (d + n)) z [] ≡ get_or (past n) z []
  unfolding history with_next
  history_kept zero n z h = ap (λ (m : ℕ). get_or (past m) z []) (NL.zero-add n)
  history_kept (suc d) n z h =
      ap (λ (m : ℕ). get_or (past m) z []) (NL.suc-add d n)
      ∙ get_or-append (past (d + n)) _ [] z (omega (arith, history_length (d + n)))
      ∙ history_kept d n z h

  -- at the total n itself
  history_next : (j n : ℕ) → j < order
      → recorded none (past (suc n)) j n ≡ rule (recorded none (past n)) j n
  unfolding history with_next
  history_next j n h =
      ap (λ (t : List A). get_or t j none) (get_or_at (past n) _ [] [] n (history_length n))
      ∙ listed_at (λ j. rule (recorded none (past n)) j n) order j none h

  -- what is recorded of the totals below x
  recorded_tabled : (x : ℕ) → Agree order (recorded none (past x)) (tabled none order rule) x
  unfolding tabled
  recorded_tabled x j z h l =
      ap (λ (t : List A). get_or t j none)
      (ap (λ (m : ℕ). get_or (past m) z []) apart ∙ history_kept (x - suc z) (suc z) z (NL.le_refl (suc z)))
    where
      apart : x ≡ (x - suc z) + suc z
      apart = omega arith

  pub tabled_rule : TabledRule none order rule
  unfolding tabled
  tabled_rule local j x h = history_next j x h
      ∙ local (recorded none (past x)) (tabled none order rule) j x h (recorded_tabled x)
