-- What is known of the rows, row by row and total by total: an entry that is exact, or exact with equal ends, lets it stand, and any other
-- ends it at its total.
use mathlib.Core.Path.{◌≡◌, refl, sym, ap, ap₂, ◌∙◌}
use mathlib.Core.Bool.{Bool, true, false, cond, ◌&&◌}
use mathlib.Core.Logic.{◌⊎◌, inl, inr}
use Prim.Native.Nat.{ℕ, ◌+◌, ◌≤◌, ◌<◌}
use native.Mathlib.Nat as NL
use native.Mathlib.Omega.{arith}
use lib.IntN.{ℤ}
use Rattle.algebra.specs.Sum.{all_of}
use Rattle.algebra.specs.Table.{same_integer}
use Rattle.algebra.specs.Tabled.{Grid}
use Rattle.algebra.proofs.And.{all_each}
use Rattle.algebra.proofs.Sum.{accumulate_zero, accumulate_next}
use Rattle.enclosure.specs.declared.Entry.{Entry}
use Rattle.enclosure.specs.declared.marks.Settled.{Settled}
use Rattle.rows.specs.Curve.{Rows}
use Rattle.rows.specs.Exact.{Marks}
use Rattle.rows.specs.Progress.{SettledRows, settled_where, exact_equal, settled_by, settled_after}

-- ---- row by row
cond_and : (a b : Bool) (m n : ℕ) → cond b (cond a m n) n ≡ cond (a && b) m n
cond_and true true m n = refl
cond_and true false m n = refl
cond_and false true m n = refl
cond_and false false m n = refl

module _ (s : Settled) (x : ℕ) (exact : Marks) (rows : Rows) where
  pub known_first : s ≡ settled_after 0 s x exact rows
  known_first = ap₂ (settled_where s x) (sym (accumulate_zero true ◌&&◌ _)) (sym (accumulate_zero true ◌&&◌ _))

  -- what was known so far, and an entry, which are those of the rule
  pub known_more : (n : ℕ) (known : Settled) (here : Bool) (e : Entry) → known ≡ settled_after n s x exact rows → here ≡ exact n x
      → e ≡ rows n x → settled_by known x here e ≡ settled_after (n + 1) s x exact rows
  known_more n known here e p q r =
      (λ i. settled_by (p i) x (q i) (r i))
      ∙ ap₂ (λ (p q : ℕ). record { exact = p; equal = q })
      (cond_and (all_of n (λ j. exact j x)) (exact n x) s.exact (x + 1))
      (cond_and (all_of n (λ j. exact_equal (exact j x) (rows j x))) (exact_equal (exact n x) (rows n x)) s.equal (x + 1))
      ∙ ap₂ (settled_where s x) (accumulate_next true ◌&&◌ n (λ j. exact j x))
      (accumulate_next true ◌&&◌ n (λ j. exact_equal (exact j x) (rows j x)))

-- ---- total by total
module _ (order x : ℕ) where
  -- rows that are alike below x
  pub settled_same : (s : Settled) (low high low' high' : Grid ℤ) (marks marks' : Marks)
      → ((j z : ℕ) → j < order → z < x → low' j z ≡ low j z) → ((j z : ℕ) → j < order → z < x → high' j z ≡ high j z)
      → ((j z : ℕ) → j < order → z < x → marks' j z ≡ marks j z)
      → SettledRows s order x low high marks → SettledRows s order x low' high' marks'
  settled_same s low high low' high' marks marks' p q r known = record {
    row = λ j h. record {
      exact_most = (known.row j h).exact_most;
      equal_most = (known.row j h).equal_most;
      exact_from = λ z l m. r j z h m ∙ (known.row j h).exact_from z l m;
      equal_from = λ z l m. ap₂ ◌&&◌ (r j z h m) (ap₂ same_integer (p j z h m) (q j z h m)) ∙ (known.row j h).equal_from z l m;
    };
  }

  from_most : (b : Bool) (from : ℕ) → from ≤ x → cond b from (x + 1) ≤ x + 1
  from_most true from h = omega arith
  from_most false from h = NL.le_refl (x + 1)

  -- what held from a total on, and holds at x in all rows, holds below the next total
  from_next : (from : ℕ) (here : ℕ → Bool) (holds : ℕ → ℕ → Bool) → ((j : ℕ) → j < order → here j ≡ holds j x)
      → ((j z : ℕ) → j < order → from ≤ z → z < x → holds j z ≡ true)
      → (j z : ℕ) → j < order → cond (all_of order here) from (x + 1) ≤ z → z < x + 1 → holds j z ≡ true
  from_next from here holds same before j z h l m = by (all_of order here) refl (NL.eq-or-lt_of_le (omega arith)) l
    where
      by : (b : Bool) → all_of order here ≡ b → (z ≡ x) ⊎ (z < x) → cond b from (x + 1) ≤ z → holds j z ≡ true
      by true e (inl p) k = ap (holds j) p ∙ sym (same j h) ∙ all_each order here e j h
      by true e (inr i) k = before j z h k i
      by false e w k = absurd (omega arith)

  -- one total more: `exact` and `rows` are what the rule makes of it
  pub settled_next : (s : Settled) (low high : Grid ℤ) (marks exact : Marks) (rows : Rows)
      → ((j : ℕ) → j < order → exact j x ≡ marks j x) → ((j : ℕ) → j < order → (rows j x).low ≡ low j x)
      → ((j : ℕ) → j < order → (rows j x).high ≡ high j x)
      → SettledRows s order x low high marks → SettledRows (settled_after order s x exact rows) order (x + 1) low high marks
  settled_next s low high marks exact rows r p q known = record {
    row = λ j h. record {
      exact_most = from_most (all_of order (λ j. exact j x)) s.exact (known.row j h).exact_most;
      equal_most = from_most (all_of order (λ j. exact_equal (exact j x) (rows j x))) s.equal (known.row j h).equal_most;
      exact_from = λ z. from_next s.exact (λ j. exact j x) marks r (λ j z h. (known.row j h).exact_from z) j z h;
      equal_from = λ z. from_next s.equal (λ j. exact_equal (exact j x) (rows j x))
          (λ j z. marks j z && same_integer (low j z) (high j z))
          (λ j h. ap₂ ◌&&◌ (r j h) (ap₂ same_integer (p j h) (q j h))) (λ j z h. (known.row j h).equal_from z) j z h;
    };
  }
