-- What an entry needs in order to leave a sum exact, by the factor's sign; marks in a row; and the entries of a term that need no look.
use mathlib.Core.Path.{◌≡◌, refl, sym, ◌∙◌, ap}
use mathlib.Core.Bool.{Bool, true, false, ◌&&◌}
use mathlib.Core.List.{List}
use mathlib.Core.Logic.{inl, inr}
use Prim.Native.Nat.{ℕ, zero, suc, ◌+◌, ◌-◌, ◌≤◌, ◌<◌}
use native.Mathlib.Omega.{arith}
use lib.IntN.{ℤ, pos, negsuc}
use lib.ListN.{get_or}
use lib.Signed.{◌≤ℤ◌}
use Rattle.algebra.specs.Table.{same_integer}
use Rattle.std.specs.List.{list_all, range_with_len}
use Rattle.algebra.specs.Sum.{all_of}
use Rattle.algebra.proofs.And.{both, HoldBelow, hold_next, all_hold, one_fails}
use Rattle.algebra.proofs.Integer.{signed, *ℤ-nonneg}
use Rattle.model.specs.Mark.{mark_of, is_exact}
use Rattle.enclosure.specs.declared.marks.Settled.{Settled}
use Rattle.enclosure.specs.declared.term.Factor.{Factor}
use Rattle.enclosure.specs.Term.{line_at, line_factor}
use Rattle.enclosure.specs.Mark.{keeps_exact, term_keeps}
use Rattle.enclosure.specs.Known.{SettledRow, KnownFrom}

module _ (f low high : ℤ) (exact : Bool) where
  -- an exact entry leaves a sum exact under a factor that is not negative, and one with equal ends under any
  keeps_above_zero : pos 0 ≤ℤ f → exact ≡ true → keeps_exact f low high exact ≡ true
  keeps_above_zero = by f
    where
      by : (f : ℤ) → pos 0 ≤ℤ f → exact ≡ true → keeps_exact f low high exact ≡ true
      by (pos zero) h e = refl
      by (pos (suc n)) h e = e
      by (negsuc n) h e = absurd h.le

  keeps_equal : (exact && same_integer low high) ≡ true → keeps_exact f low high exact ≡ true
  keeps_equal = by f
    where
      by : (f : ℤ) → (exact && same_integer low high) ≡ true → keeps_exact f low high exact ≡ true
      by (pos zero) e = refl
      by (pos (suc n)) e = (both {p = exact} {q = same_integer low high} e).0
      by (negsuc n) e = e

-- where each test below a holds, those of the n numbers from a on are the rest of all
pub rest_of : (test : ℕ → Bool) (a n : ℕ) → HoldBelow test a → list_all test (range_with_len a n) ≡ all_of (a + n) test
rest_of test a zero h = sym (all_hold (a + zero) test (λ i l. h.each i (omega arith)))
rest_of test a (suc n) h = by (test a) refl (λ e. rest_of test (a + 1) n (hold_next h e))
  where
    by : (t : Bool) → test a ≡ t → (test a ≡ true → list_all test (range_with_len (a + 1) n) ≡ all_of (a + 1 + n) test)
        → (t && list_all test (range_with_len (a + 1) n)) ≡ all_of (a + suc n) test
    by true e more = more e ∙ ap (λ (m : ℕ). all_of m test) (omega arith)
    by false e more = sym (one_fails (a + suc n) test a (omega arith) e)

-- what a mark says
pub mark_exact : (exact : Bool) → is_exact (mark_of exact) ≡ exact
mark_exact true = refl
mark_exact false = refl

-- the severities that read known entries
module _ (f : Factor) (weights : List ℕ) (settled : Settled) (x last : ℕ) (low high : ℕ → ℤ) (exact : ℕ → Bool)
    (h : SettledRow settled x low high exact) where
  pub known_most : (from : ℕ) → KnownFrom f last settled from → from ≤ x
  known_most from (inl (e, _)) = omega (arith, e, h.exact_most)
  known_most from (inr e) = omega (arith, e, h.equal_most)

  pub known_keeps : (from : ℕ) → KnownFrom f last settled from → (n : ℕ) → n ≤ last → n ≤ x - from
      → HoldBelow (term_keeps (line_factor f weights) x low high exact) n
  known_keeps from known n most within = record { each = λ y l. by y l known }
    where
      by : (y : ℕ) → y < n → KnownFrom f last settled from → term_keeps (line_factor f weights) x low high exact y ≡ true
      by y l (inl (e, upright)) =
          keeps_above_zero (line_factor f weights y) (low (x - (y + 1))) (high (x - (y + 1))) (exact (x - (y + 1)))
          (*ℤ-nonneg (line_at f (y + 1)) (pos (get_or weights y 0)) (upright (y + 1) (omega arith) (omega arith)) (omega signed))
          (h.exact_from (x - (y + 1)) (omega (arith, e)) (omega arith))
      by y l (inr e) =
          keeps_equal (line_factor f weights y) (low (x - (y + 1))) (high (x - (y + 1))) (exact (x - (y + 1)))
          (h.equal_from (x - (y + 1)) (omega (arith, e)) (omega arith))
