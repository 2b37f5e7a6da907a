-- Each term of the law is asked, up to the first that uses an entry which is not exact.
use Rattle.std.proofs.Common.{◌≡◌, ℕ, ◌<◌, Bool, true, false, length, refl, sym, ◌∙◌, rules, arith, tests}
use native.Mathlib.Nat.{zero-add}
use Rattle.std.specs.Bool.{MatchBool}
use Rattle.std.specs.List.{range_with_len, AllWithin, HoldsAt}
use Rattle.std.proofs.lemmas.Iterator.{serves_from_Range, cases_from_all, YieldsList-from_range}
use Rattle.std.proofs.lemmas.List.FromFn.{length-range_with_len, get_or-range_with_len}
use Rattle.algebra.specs.Sum.{all_of}
use Rattle.algebra.proofs.And.{all_hold, one_fails}
use Rattle.rows.specs.Exact.{lows, highs}
use Rattle.rows.specs.Lent.{shared_entries, shared_marks}
use Rattle.rows.specs.Progress.{term_factor}
use Rattle.rows.proofs.MarkRule.{row_exact, used_zero_lem}
use Rattle.rows.proofs.total.Recursion.are_terms_exact.Goals as goal

pub all-requires-clause-callable : goal.all-requires-clause-callable
all-requires-clause-callable c = serves_from_Range (λ x q r. search rules) (λ x h l. search rules)

-- `all` over a range is the test of all numbers below its end
all_below : (r : Bool) (n : ℕ) (test : ℕ → Bool)
    → MatchBool r (AllWithin (λ i. test i ≡ true) (range_with_len 0 n) 0 (length (range_with_len 0 n)))
    ((k : ℕ) × (k < length (range_with_len 0 n)) × HoldsAt (λ i. test i ≡ false) (range_with_len 0 n) k) → r ≡ all_of n test
all_below true n test h = sym (all_hold n test (λ i l.
    rw (get_or-range_with_len 0 n i 0 l, zero-add) at (h i 0 (omega arith) (omega (arith, length-range_with_len 0 n)))))
all_below false n test h =
    let below : h.0 < n = omega (arith, length-range_with_len 0 n, h.1) in
    sym (one_fails n test h.0 below (rw (get_or-range_with_len 0 n h.0 0 below, zero-add) at (h.2 0)))

pub returns : goal.returns
returns c =
    let r = c.args.self.now in
    let rows = c.args.rows.now in
    let test : ℕ → Bool = row_exact (term_factor r.job.law.a r.job.law.b c.args.x) r.weights.now c.args.x (lows (shared_entries rows))
    (highs (shared_entries rows)) (shared_marks rows) in
    all_below c.all.result r.job.law.order test (cases_from_all _ _ _ (λ i. test i ≡ true) (λ i. test i ≡ false) c.all.ensures.ran
    (YieldsList-from_range 0 r.job.law.order r.job.law.order refl (omega arith))
    (λ x q k. search (rules, tests)) (λ x q k. search (rules, tests)))
    ∙ used_zero_lem r.job.law _ c.args.x _ _ _
