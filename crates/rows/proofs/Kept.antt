-- Rows whose later places keep what they held: a place below n may be set, n may grow, and one change may follow another. Such a row is
-- written from the front.
use mathlib.Core.Path.{◌≡◌, refl, sym, ap, ◌∙◌}
use mathlib.Core.List.{List, ◌++◌}
use Prim.Native.Nat.{ℕ, ◌+◌, ◌-◌, ◌≤◌, ◌<◌}
use native.Mathlib.Omega.{arith}
use lib.IntN.{ℤ, pos}
use lib.ListN.{length, get_or, take, drop, set, length-set, take-append-drop}
use lib.Seq.{length-take-le, get_or-take, ext_get_or, drop-set-lt, drop-drop}
use Rattle.algebra.specs.Slice.{listed, written}
use Rattle.algebra.proofs.Slice.{listed_length, listed_at}
use Rattle.rows.specs.Layout.{Lent, LongEnough}
use Rattle.rows.specs.Progress.{Kept, RowsKept}

-- ---- one row
pub kept_same : {n : ℕ} {row : List ℤ} → Kept n row row
kept_same = record { same_length = refl; later = refl }

pub kept_set : (n : ℕ) (row row₀ : List ℤ) (i : ℕ) (v : ℤ) → i < n → Kept n row row₀ → Kept n (set row i v) row₀
kept_set n row row₀ i v h k = record {
  same_length = length-set row i v ∙ k.same_length;
  later = drop-set-lt n row i v h ∙ k.later;
}

pub kept_further : (m n : ℕ) (row row₀ : List ℤ) → m ≤ n → Kept m row row₀ → Kept n row row₀
kept_further m n row row₀ h k = record {
  same_length = k.same_length;
  later = further row ∙ ap (drop (n - m)) k.later ∙ sym (further row₀);
}
  where
    apart : n ≡ m + (n - m)
    apart = omega arith

    further : (row : List ℤ) → drop n row ≡ drop (n - m) (drop m row)
    further row = ap (λ (i : ℕ). drop i row) apart ∙ sym (drop-drop (n - m) m row)

pub kept_then : (n : ℕ) (row row₁ row₀ : List ℤ) → Kept n row row₁ → Kept n row₁ row₀ → Kept n row row₀
kept_then n row row₁ row₀ p q = record { same_length = p.same_length ∙ q.same_length; later = p.later ∙ q.later }

-- where n places are written, the later ones count
pub kept_written : (front row row₀ : List ℤ) (n : ℕ) → length front ≡ n → Kept n row row₀ → written front row ≡ written front row₀
kept_written front row row₀ n e k = ap (λ (rest : List ℤ). front ++ rest)
    (ap (λ (i : ℕ). drop i row) e ∙ k.later ∙ ap (λ (i : ℕ). drop i row₀) (sym e))

-- a row by its first n places
pub kept_listed : (f : ℕ → ℤ) (row row₀ : List ℤ) (n : ℕ) → n ≤ length row₀ → Kept n row row₀
    → ((z : ℕ) → z < n → get_or row z (pos 0) ≡ f z) → row ≡ written (listed f n) row₀
kept_listed f row row₀ n h k at =
    sym (take-append-drop n row)
    ∙ ap (λ (front : List ℤ). front ++ drop n row) first
    ∙ ap (λ (rest : List ℤ). listed f n ++ rest) (k.later ∙ ap (λ (i : ℕ). drop i row₀) (sym (listed_length f n)))
  where
    taken : length (take n row) ≡ n
    taken = length-take-le n row (rw k.same_length h)

    first : take n row ≡ listed f n
    first = ext_get_or (pos 0) (take n row) (listed f n) (taken ∙ sym (listed_length f n)) (λ z l.
        get_or-take n row z (pos 0) (rw taken at l) ∙ at z (rw taken at l) ∙ sym (listed_at f n z (pos 0) (rw taken at l)))

-- ---- the lent rows
pub rows_untouched : (n places : ℕ) (lent : Lent) → RowsKept n places lent lent
rows_untouched n places lent = record { low = kept_same; high = kept_same; bound = kept_same; work = kept_same }

module _ (places : ℕ) (lent lent₀ : Lent) where
  pub rows_further : (m n : ℕ) → m ≤ n → RowsKept m places lent lent₀ → RowsKept n places lent lent₀
  rows_further m n h k = record {
    low = kept_further m n _ _ h k.low;
    high = kept_further m n _ _ h k.high;
    bound = kept_further m n _ _ h k.bound;
    work = k.work;
  }

  -- rows that are kept stay long enough
  pub long_kept : (n : ℕ) → RowsKept n places lent lent₀ → LongEnough places lent₀ → LongEnough places lent
  long_kept n k long = record {
    low_long = rw k.low.same_length long.low_long;
    high_long = rw k.high.same_length long.high_long;
    bound_long = rw k.bound.same_length long.bound_long;
    work_long = rw k.work.same_length long.work_long;
  }

-- total x after the totals below it, seen from n on
pub rows_step : (places : ℕ) (lent lent₁ lent₀ : Lent) (x n : ℕ) → x + 1 ≤ n
    → RowsKept (x + 1) places lent lent₁ → RowsKept x places lent₁ lent₀ → RowsKept n places lent lent₀
rows_step places lent lent₁ lent₀ x n h p q =
    let next = rows_further places lent lent₁ (x + 1) n h p in
    let first = rows_further places lent₁ lent₀ x n (omega arith) q in
    record {
      low = kept_then n _ _ _ next.low first.low;
      high = kept_then n _ _ _ next.high first.high;
      bound = kept_then n _ _ _ next.bound first.bound;
      work = kept_then _ _ _ _ next.work first.work;
    }
