-- The rule of the marks reads only the rows 0 to k - 1 at earlier totals, so that the curve's marks follow it; and its tests, term by term.
use mathlib.Core.Path.{◌≡◌, refl, ap, ap₂}
use mathlib.Core.Bool.{Bool, true, false, ◌&&◌}
use mathlib.Core.List.{List}
use Prim.Native.Nat.{ℕ, zero, suc, ◌-◌, ◌≤◌, ◌<◌}
use native.Mathlib.Nat as NL
use native.Mathlib.Numerals.{add-one}
use native.Mathlib.Omega.{arith}
use lib.IntN.{ℤ, pos}
use lib.ListN.{get_or}
use Rattle.algebra.specs.Sum.{all_of}
use Rattle.algebra.specs.Tabled.{Grid, Agree}
use Rattle.algebra.proofs.And.{all_hold}
use Rattle.algebra.proofs.Size.{size_mul_le}
use Rattle.algebra.proofs.Sum.{accumulate_cong}
use Rattle.algebra.proofs.Tabled.{tabled_rule}
use Rattle.model.specs.declared.Law.{Law}
use Rattle.model.specs.declared.Job.{Job}
use Rattle.model.specs.Limits.{most_order, most_last}
use Rattle.enclosure.specs.declared.Entry.{Entry}
use Rattle.enclosure.specs.declared.term.Factor.{Factor}
use Rattle.enclosure.specs.Entry.{divides_sums}
use Rattle.enclosure.specs.Run.{FactorSmall}
use Rattle.enclosure.specs.Term.{line_factor}
use Rattle.enclosure.specs.Mark.{keeps_exact, term_exact}
use Rattle.rows.specs.Curve.{Rows, severities, factor, curve_rows}
use Rattle.rows.specs.Exact.{Marks, lows, highs, used_next, used_zero, used_at, divides_at, exact_at, curve_marks, MarkRule}
use Rattle.rows.specs.Limits.{LawLimits}
use Rattle.rows.specs.Progress.{term_factor, weight_alone}
use Rattle.rows.proofs.Recursion.{sums_local}
use Rattle.rows.proofs.Sums.{factor_is}

-- ---- the rule in two halves, as the code tests it
module _ (law : Law) (weights : List ℕ) (low high : Grid ℤ) (marks : Marks) where
  -- at total 0 nothing is used
  none_used : (f : ℕ → Bool) → all_of (severities weights 0) f ≡ true
  none_used f = all_hold (severities weights 0) f (λ i l. absurd (NL.not-suc-le-zero (NL.lt_of_lt_of_le l (NL.min-le_left 0 _))))

  used_first : (j : ℕ) → used_at law weights low high marks j 0 ≡ true
  unfolding used_zero used_next
  used_first zero = all_hold law.order _ (λ i l. none_used _)
  used_first (suc j) = none_used _

pub exact_is : (job : Job) (weights : List ℕ) (rows : Rows) (marks : Marks) (j x : ℕ)
    → (divides_at job weights rows j x && used_at job.law weights (lows rows) (highs rows) marks j x) ≡ exact_at job weights rows marks j x
unfolding exact_at divides_at
exact_is job weights rows marks j zero = used_first job.law weights (lows rows) (highs rows) marks j
exact_is job weights rows marks j (suc x) = refl

-- ---- what a row uses, term by term
abbrev pub row_exact : (ℕ → Factor) → List ℕ → ℕ → (low high : Grid ℤ) → Marks → ℕ → Bool
row_exact f weights x low high marks i = term_exact (line_factor (f i) weights) x weights (low i) (high i) (marks i)

pub used_zero_lem : (law : Law) (weights : List ℕ) (x : ℕ) (low high : Grid ℤ) (marks : Marks)
    → all_of law.order (row_exact (term_factor law.a law.b x) weights x low high marks) ≡ used_zero law weights low high marks x
unfolding used_zero
used_zero_lem law weights x low high marks = accumulate_cong true ◌&&◌ law.order (λ i l.
    accumulate_cong true ◌&&◌ (severities weights x) (λ y m.
    ap₂ (λ (z : ℤ) (n : ℕ). keeps_exact z (low i (x - n)) (high i (x - n)) (marks i (x - n))) (factor_is law weights x i y) (add-one y)))

weight_is : (weights : List ℕ) (y : ℕ) → line_factor weight_alone weights y ≡ pos (get_or weights y 0)
weight_is weights y = ap pos (omega arith)

pub used_next_lem : (weights : List ℕ) (x : ℕ) (low high : Grid ℤ) (marks : Marks) (j : ℕ)
    → term_exact (line_factor weight_alone weights) x weights (low j) (high j) (marks j) ≡ used_next weights low high marks j x
unfolding used_next
used_next_lem weights x low high marks j = accumulate_cong true ◌&&◌ (severities weights x) (λ y m.
    ap₂ (λ (z : ℤ) (n : ℕ). keeps_exact z (low j (x - n)) (high j (x - n)) (marks j (x - n))) (weight_is weights y) (add-one y))

-- the factors are small
pub term_factor_small : (law : Law) → LawLimits law → (x : ℕ) → x ≤ most_last → (i : ℕ) → i < most_order
    → FactorSmall (term_factor law.a law.b x i)
term_factor_small law limits x h i l = record {
  constant_small = size_mul_le (get_or law.a i (pos 0)) (pos x) 1000 most_last (limits.a_small i l) h;
  slope_small = limits.b_small i l;
}

-- ---- the rule reads nothing else
same_keeps : (f : ℤ) {e e' : Entry} {m m' : Bool} → e ≡ e' → m ≡ m' → keeps_exact f e.low e.high m ≡ keeps_exact f e'.low e'.high m'
same_keeps f p q = λ i. keeps_exact f (p i).low (p i).high (q i)

module _ (job : Job) (weights : List ℕ) where
  divides_local : (rows rows' : Rows) (j x : ℕ) → j < job.law.order → Agree job.law.order rows rows' x
      → divides_at job weights rows j x ≡ divides_at job weights rows' j x
  unfolding divides_at
  divides_local rows rows' j zero h agree = refl
  divides_local rows rows' j (suc x) h agree = ap (divides_sums _) (sums_local job weights rows rows' j x h agree)

  module _ (rows rows' : Rows) (marks marks' : Marks) where
    used_local : (j x : ℕ) → j < job.law.order → Agree job.law.order rows rows' (suc x)
        → Agree job.law.order marks marks' (suc x) → used_at job.law weights (lows rows) (highs rows) marks j (suc x)
        ≡ used_at job.law weights (lows rows') (highs rows') marks' j (suc x)
    unfolding used_zero used_next
    used_local zero x h agree same = accumulate_cong true ◌&&◌ job.law.order (λ i l.
        accumulate_cong true ◌&&◌ (severities weights (suc x)) (λ y m.
        same_keeps (factor job.law weights (suc x) i y) (agree i (suc x - suc y) l (omega arith))
        (same i (suc x - suc y) l (omega arith))))
    used_local (suc j) x h agree same = accumulate_cong true ◌&&◌ (severities weights (suc x)) (λ y m.
        same_keeps (pos (get_or weights y 0)) (agree j (suc x - suc y) (omega arith) (omega arith))
        (same j (suc x - suc y) (omega arith) (omega arith)))

    pub exact_local : (j x : ℕ) → j < job.law.order → Agree job.law.order rows rows' x → Agree job.law.order marks marks' x
        → exact_at job weights rows marks j x ≡ exact_at job weights rows' marks' j x
    unfolding exact_at
    exact_local j zero h agree same = refl
    exact_local j (suc x) h agree same = ap₂ ◌&&◌ (divides_local rows rows' j (suc x) h agree) (used_local j x h agree same)

  pub mark_rule : MarkRule job weights
  unfolding curve_marks
  mark_rule = tabled_rule false job.law.order (exact_at job weights (curve_rows job weights)) (λ marks marks' j x h same.
      exact_local (curve_rows job weights) (curve_rows job weights) marks marks' j x h (λ i z k l. refl) same)
