-- What the outward rule preserves, by one induction over totals: entries stand beside other numbers (exact ones, the entries of another
-- job, or none) in a relation that sums, factors and divisions preserve, and the others follow the same recursion.
use mathlib.Core.Path.{sym, subst}
use mathlib.Core.List.{List}
use Prim.Native.Nat.{ℕ, zero, suc, ◌-◌, ◌≤◌, ◌<◌}
use native.Mathlib.Nat as NL
use native.Mathlib.Omega.{arith}
use lib.IntN.{ℤ, pos}
use lib.ListN.{get_or}
use Rattle.algebra.specs.Sum.{accumulate}
use Rattle.algebra.proofs.Induction.{strong}
use Rattle.algebra.proofs.Sum.{sum_related}
use Rattle.model.specs.Weights.{total_weight, divisor_zero}
use Rattle.model.specs.declared.Job.{Job}
use Rattle.model.specs.Job.{job_divisor}
use Rattle.enclosure.specs.declared.Entry.{Entry}
use Rattle.enclosure.specs.Entry.{none, plus, sum_of, scaled, rounded}
use Rattle.rows.specs.Curve.{severities, factor, divisor_at, first_entry, sums_zero, sums_next, entry_at, curve_rows}
use Rattle.rows.proofs.Recursion.{curve_rule}

-- a relation of entries to other numbers that is preserved where both are added, multiplied and divided
pub record Preserved (B : Type 0) (Rel : Entry → B → Type 0) : Type 1 where
  pub nought : B
  pub add : B → B → B
  pub times : ℤ → B → B
  -- Divided d b c: c is b divided by d
  pub Divided : ℕ → B → B → Type 0
  pub by_none : Rel none nought
  pub by_plus : (e f : Entry) (b c : B) → Rel e b → Rel f c → Rel (plus e f) (add b c)
  pub by_scaled : (z : ℤ) (e : Entry) (b : B) → Rel e b → Rel (scaled z e) (times z b)
  pub by_rounded : (d : ℕ) (e : Entry) (b c : B) → 1 ≤ d → Rel e b → Divided d b c → Rel (rounded d e) c

-- the divisor of each row at each total past 0 is at least 1
abbrev pub DivisorsPos : Job → List ℕ → Type 0
DivisorsPos job weights = (j x : ℕ) → j < job.law.order → 1 ≤ divisor_at job weights j (suc x)

pub divisors_pos : (job : Job) (weights : List ℕ) → 1 ≤ job_divisor job weights → 1 ≤ total_weight weights → DivisorsPos job weights
unfolding divisor_zero
divisors_pos job weights thinned total zero x h = NL.mul-pos thinned (NL.zero-lt-suc x)
divisors_pos job weights thinned total (suc j) x h = omega arith

module _ {B : Type 0} {Rel : Entry → B → Type 0} (keeps : Preserved B Rel) where
  -- the other numbers, added up
  abbrev pub together : ℕ → (ℕ → B) → B
  together = accumulate keeps.nought keeps.add

  sum_preserved : (n : ℕ) (e : ℕ → Entry) (b : ℕ → B) → ((i : ℕ) → i < n → Rel (e i) (b i)) → Rel (sum_of n e) (together n b)
  sum_preserved = sum_related Rel none plus keeps.nought keeps.add keeps.by_none keeps.by_plus

  module _ (job : Job) (weights : List ℕ) where
    -- rows of the other numbers follow the curve's rule
    pub record Follows (rows : ℕ → ℕ → B) : Type 0 where
      pub first : (j : ℕ) → j < job.law.order → Rel (first_entry job.start j) (rows j 0)
      pub row_zero : (x : ℕ) → 0 < job.law.order → keeps.Divided (divisor_at job weights 0 (suc x))
          (together job.law.order (λ i. together (severities weights (suc x)) (λ y.
          keeps.times (factor job.law weights (suc x) i y) (rows i (suc x - suc y)))))
          (rows 0 (suc x))
      pub row_next : (j x : ℕ) → suc j < job.law.order → keeps.Divided (divisor_at job weights (suc j) (suc x))
          (together (severities weights (suc x)) (λ y. keeps.times (pos (get_or weights y 0)) (rows j (suc x - suc y))))
          (rows (suc j) (suc x))

    module _ (divisors : DivisorsPos job weights) (rows : ℕ → ℕ → B) (rule : Follows rows) where
      -- the claim at total x, for the rows 0 to k - 1
      abbrev At : ℕ → Type 0
      At x = (j : ℕ) → j < job.law.order → Rel (curve_rows job weights j x) (rows j x)

      entry_preserved : (j x : ℕ) → j < job.law.order → ((z : ℕ) → z < x → At z)
          → Rel (entry_at job weights (curve_rows job weights) j x) (rows j x)
      unfolding entry_at sums_zero sums_next
      entry_preserved j zero h before = rule.first j h
      entry_preserved zero (suc x) h before = keeps.by_rounded _ _ _ _ (divisors 0 x h)
          (sum_preserved job.law.order _ _ (λ i l. sum_preserved (severities weights (suc x)) _ _ (λ y m.
          keeps.by_scaled _ _ _ (before (suc x - suc y) (omega arith) i l))))
          (rule.row_zero x h)
      entry_preserved (suc j) (suc x) h before = keeps.by_rounded _ _ _ _ (divisors (suc j) x h)
          (sum_preserved (severities weights (suc x)) _ _ (λ y m.
          keeps.by_scaled _ _ _ (before (suc x - suc y) (omega arith) j (omega arith))))
          (rule.row_next j x h)

      pub all_preserved : (x : ℕ) → At x
      all_preserved = strong At (λ x before j h.
          subst (λ e. Rel e (rows j x)) (sym (curve_rule job weights j x h)) (entry_preserved j x h before))

-- ---- a property of entries alone: nothing stands beside them
pub record PreservedAlone (P : Entry → Type 0) : Type 0 where
  pub by_none : P none
  pub by_plus : (d e : Entry) → P d → P e → P (plus d e)
  pub by_scaled : (z : ℤ) (e : Entry) → P e → P (scaled z e)
  pub by_rounded : (d : ℕ) (e : Entry) → 1 ≤ d → P e → P (rounded d e)

module _ {P : Entry → Type 0} (keeps : PreservedAlone P) where
  abbrev beside_nothing : Preserved (Unit {0}) (λ e _. P e)
  beside_nothing = record {
    nought = tt;
    add = λ _ _. tt;
    times = λ _ _. tt;
    Divided = λ _ _ _. Unit {0};
    by_none = keeps.by_none;
    by_plus = λ d e _ _ p q. keeps.by_plus d e p q;
    by_scaled = λ z e _ p. keeps.by_scaled z e p;
    by_rounded = λ d e _ _ l p _. keeps.by_rounded d e l p;
  }

  pub all_entries : (job : Job) (weights : List ℕ) → DivisorsPos job weights
      → ((j : ℕ) → P (first_entry job.start j)) → (x j : ℕ) → j < job.law.order → P (curve_rows job weights j x)
  all_entries job weights divisors first = all_preserved beside_nothing job weights divisors (λ _ _. tt)
      (record { first = λ j _. first j; row_zero = λ _ _. tt; row_next = λ _ _ _. tt })
