-- The first pair of a low and a high that is wrong stands where the paper's first wrong entry does.
use mathlib.Core.Path.{◌≡◌, refl, sym, ◌∙◌}
use mathlib.Core.Bool.{Bool, true, false, not, cond}
use mathlib.Core.List.{List, [], ◌∷◌}
use Prim.Native.Nat.{ℕ, suc, ◌+◌}
use native.Mathlib.Omega.{arith}
use lib.Dec.{ltb}
use lib.IntN.{ℤ}
use lib.ListN.{length}
use Rattle.std.proofs.Common.{None, Some, zip}
use Rattle.std.proofs.lemmas.Slice.Zip.{length-zip}
use Rattle.std.specs.List.{position_or_len}
use Rattle.algebra.specs.Smallest.{smallest}
use Rattle.model.specs.Answer.{accepted, refused, first_refusal}
use Rattle.model.proofs.Answer.{first_none, first_fails}
use Rattle.intervals.specs.Checks.{wrong_entry, first_wrong, first_wrong_entry, FirstWrongFound, entries_condition}

first_pair : (low high : List ℤ) → length low ≡ length high
    → position_or_len (λ p. wrong_entry p.0 p.1) (zip low high) ≡ first_wrong low high
unfolding smallest
first_pair [] high e = refl
first_pair (l ∷ low) [] e = absurd (omega (arith, e))
first_pair (l ∷ low) (h ∷ high) e = by (wrong_entry l h) (first_pair low high (omega (arith, e)))
  where
    by : (t : Bool) {m n : ℕ} → m ≡ n → cond (not t) (1 + m) 0 ≡ cond t 0 (suc n)
    by true e = refl
    by false e = omega (arith, e)

pub first_wrong_found : FirstWrongFound
first_wrong_found low high e =
    let pairs : length (zip low high) ≡ length low = omega (arith, length-zip low high, e) in rw (first_pair low high e, pairs)

-- what the code finds is what the condition 33 tells
module _ (number : ℕ) (low high : List ℤ) (same : length low ≡ length high) where
  pub found_refuses : (place : ℕ) → Some place ≡ first_wrong_entry low high
      → refused number place ≡ first_refusal (entries_condition number low high ∷ [])
  unfolding first_refusal
  found_refuses place e = by (ltb (first_wrong low high) (length low)) (e ∙ first_wrong_found low high same)
    where
      by : (t : Bool) → Some place ≡ cond t (Some (first_wrong low high)) None
          → refused number place ≡ cond t (refused number (first_wrong low high)) accepted
      by true e = cc
      by false e = cc

  pub none_holds : None ≡ first_wrong_entry low high → (entries_condition number low high).holds ≡ false
  none_holds e = by (ltb (first_wrong low high) (length low)) (e ∙ first_wrong_found low high same)
    where
      by : (t : Bool) → None ≡ cond t (Some (first_wrong low high)) None → t ≡ false
      by true e = cc
      by false e = refl

  pub none_accepts : None ≡ first_wrong_entry low high → accepted ≡ first_refusal (entries_condition number low high ∷ [])
  none_accepts e = sym (first_fails _ [] (none_holds e) ∙ first_none)
