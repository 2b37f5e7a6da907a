-- The law follows from the answer; and what an acceptance says. Turning a sign keeps a number's size, so that the limits may be looked at
-- before the turn.
use mathlib.Core.Path.{◌≡◌, refl, ap}
use mathlib.Core.Bool.{Bool, true, false, true≢false, not, ◌||◌, cond}
use mathlib.Core.List.{[]}
use Prim.Native.Nat.{zero, suc, ◌≤◌, zero-le}
use native.Mathlib.Omega.{arith}
use borrow.Author.Tests.{le-ltb}
use lib.Dec.{T}
use lib.IntN.{ℤ, pos, negsuc, neg_ℤ, nat_abs}
use lib.Signed.{lt_z, ◌≤ℤ◌}
use Rattle.algebra.specs.Table.{same_integer}
use Rattle.algebra.proofs.Integer.{pos_mono}
use Rattle.algebra.proofs.Size.{size_neg}
use Rattle.algebra.proofs.Table.{same_integer_lem}
use Rattle.model.specs.Answer.{Answer, accepted, first_refusal}
use Rattle.model.specs.Limits.{beyond}
use Rattle.model.proofs.Answer.{none_holds}
use Rattle.published.specs.Call.{Made, turn, turned_law, wrong_law, checks, unless_refused, law_of_line}

pub law_is : (constant D A B : ℤ) {answer : Answer} → first_refusal (checks constant D A B) ≡ answer
    → law_of_line constant D A B ≡ unless_refused answer (turned_law D A B)
unfolding law_of_line
law_is constant D A B e = ap (λ (a : Answer). unless_refused a (turned_law D A B)) e

-- ---- what is turned
pub turn_size : (D z : ℤ) → nat_abs (turn D z) ≡ nat_abs z
turn_size D z = by (lt_z D (pos 0))
  where
    by : (t : Bool) → nat_abs (cond t (neg_ℤ z) z) ≡ nat_abs z
    by true = size_neg z
    by false = refl

pub turn_nonneg : (D : ℤ) → pos 0 ≤ℤ turn D D
turn_nonneg (pos n) = rw (le-ltb n 0 zero-le) (pos_mono zero-le)
turn_nonneg (negsuc n) = pos_mono zero-le

size_pos : (z : ℤ) → same_integer z (pos 0) ≡ false → 1 ≤ nat_abs z
size_pos (pos zero) e = absurd (true≢false e)
size_pos (pos (suc n)) e = omega arith
size_pos (negsuc n) e = omega arith

-- 53, before the turn
pub limits_are : (D A B : ℤ) → same_integer D (pos 0) ≡ false → (beyond 1000 D || (beyond 1000 A || beyond 1000 B)) ≡ wrong_law D A B
limits_are D A B e = rw (turn_size D D, turn_size D A, turn_size D B, le-ltb (nat_abs D) 1 (size_pos D e))

-- ---- after an acceptance
pub record LineAccepted (constant D A B : ℤ) : Type 0 where
  pub no_constant : constant ≡ pos 0
  pub divisor_pos : 1 ≤ nat_abs (turn D D)
  pub within : wrong_law D A B ≡ false
  pub law_made : (law_of_line constant D A B).law ≡ turned_law D A B

pub line_accepted : (constant D A B : ℤ) → (law_of_line constant D A B).answer ≡ accepted → LineAccepted constant D A B
unfolding law_of_line
line_accepted constant D A B e =
    let fails = (none_holds (checks constant D A B) [] tt e).0 in record {
      no_constant = same_integer_lem constant (pos 0) (not_not (same_integer constant (pos 0)) (fails 51));
      divisor_pos = rw (turn_size D D) (size_pos D (fails 52));
      within = fails 53;
      law_made = ap (λ (m : Made). m.law) (law_is constant D A B e);
    }
  where
    not_not : (t : Bool) → not t ≡ false → T t
    not_not true k = tt
    not_not false k = absurd (true≢false k)
