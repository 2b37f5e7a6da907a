-- What an answer says of its job: the checks are a chain of conditions, and an acceptance passed each of them.
use mathlib.Core.Path.{◌≡◌, refl, sym, ◌∙◌}
use mathlib.Core.Bool.{Bool, true, false, true≢false, ◌&&◌, ◌||◌, cond}
use mathlib.Core.List.{List, [], ◌++◌}
use Prim.Native.Nat.{ℕ, zero, suc, ◌+◌, ◌≤◌, ◌<◌, zero-le}
use native.Mathlib.Nat as NL
use native.Mathlib.Omega.{arith}
use borrow.Author.Tests.{lt-ltb, ltb-false}
use lib.Dec.{ltb, eqb}
use lib.IntN.{ℤ, pos, nat_abs}
use lib.ListN.{get_or}
use Rattle.algebra.proofs.Or.{or_left, or_right}
use Rattle.algebra.proofs.Smallest.{smallest_finds}
use Rattle.model.specs.declared.Law.{Law}
use Rattle.model.specs.declared.Job.{Job}
use Rattle.model.specs.Job.{job_divisor}
use Rattle.model.specs.Weights.{total_weight, all_weight}
use Rattle.model.specs.Answer.{Condition, accepted, first_refusal}
use Rattle.model.proofs.Answer.{none_holds}
use Rattle.model.proofs.Tests.{within}
use Rattle.model.specs.Limits.{unit, most_order, most_last, outside, beyond}
use Rattle.rows.specs.Layout.{work_places}
use Rattle.rows.specs.Limits.{LawLimits, Limits}
use Rattle.compound.specs.Lent.{Lent, LongEnough}
use Rattle.compound.specs.Call.{term_limit, wrong_term, first_wrong_term, shorter, too_short, law_checks, checks}

-- ---- checks 1 to 8, and 11 to 13 among them
-- 12 and 13
not_zero : (n : ℕ) → eqb n 0 ≡ false → 1 ≤ n
not_zero zero e = absurd (true≢false e)
not_zero (suc n) e = NL.zero-lt-suc n

-- 11
and_fails : (s t : Bool) → (s && t) ≡ false → t ≡ true → s ≡ false
and_fails true t e h = absurd (true≢false (sym h ∙ e))
and_fails false t e h = refl

limit_most : (t : Bool) → cond t 1000 0 ≤ 1000
limit_most true = NL.le_refl 1000
limit_most false = zero-le

-- 3: no term is wrong, so that each is small
module _ (law : Law) (e : ltb (first_wrong_term law) most_order ≡ false) (i : ℕ) (l : i < most_order) where
  right : wrong_term law i ≡ false
  right = (smallest_finds (wrong_term law) most_order).1 i (omega (arith, ltb-false (first_wrong_term law) most_order e))

  small : (terms : List ℤ) → beyond (term_limit law.order i) (get_or terms i (pos 0)) ≡ false → nat_abs (get_or terms i (pos 0)) ≤ 1000
  small terms t = NL.le_trans (ltb-false (term_limit law.order i) (nat_abs (get_or terms i (pos 0))) t) (limit_most (ltb i law.order))

  a_small : nat_abs (get_or law.a i (pos 0)) ≤ 1000
  a_small = small law.a (or_left _ _ right)

  b_small : nat_abs (get_or law.b i (pos 0)) ≤ 1000
  b_small = small law.b (or_right (beyond (term_limit law.order i) (get_or law.a i (pos 0))) _ right)

-- 1 to 3
law_lem : (law : Law) → outside 1 most_order law.order ≡ false → outside 1 1000 law.divisor ≡ false
    → ltb (first_wrong_term law) most_order ≡ false → LawLimits law
law_lem law order divisor terms = record {
  order_least = (within 1 most_order law.order order).0;
  order_most = (within 1 most_order law.order order).1;
  divisor_least = (within 1 1000 law.divisor divisor).0;
  divisor_most = (within 1 1000 law.divisor divisor).1;
  a_small = a_small law terms;
  b_small = b_small law terms;
}

pub law_limits : (law : Law) → accepted ≡ first_refusal (law_checks law) → LawLimits law
law_limits law passed =
    let fails = (none_holds (law_checks law) [] tt (sym passed)).0 in
    law_lem law (fails 1) (fails 2) (fails 3)

module _ (job : Job) (weights : List ℕ) (lent : Lent) where
  pub checked_limits : (rest : List Condition) → first_refusal (checks job weights lent ++ rest) ≡ accepted
      → Limits job weights × LongEnough (job.last + 1) lent × (first_refusal rest ≡ accepted)
  checked_limits rest e =
      let passed = none_holds (checks job weights lent) rest tt e in
      let fails = passed.0 in
      let total = (within 1 1000 (all_weight job.zero weights) (fails 6)).1 in
      let ends = within 1 unit job.start.high (or_right (ltb job.start.high job.start.low) _ (fails 4)) in (
        record {
          law = law_lem job.law (fails 1) (fails 2) (fails 3);
          table = record {
            weights_least = not_zero (total_weight weights) (fails 13);
            weights_most = omega (arith, total);
          };
          all_most = total;
          thinned_least = not_zero (job_divisor job weights) (fails 12);
          start_order = ltb-false job.start.high job.start.low (or_left _ _ (fails 4));
          start_most = ends.1;
          last_most = ltb-false most_last job.last (fails 7);
        },
        long (fails 8),
        passed.1,
      )
    where
      -- a test for each row
      long : too_short (job.last + 1) lent ≡ false → LongEnough (job.last + 1) lent
      long e =
          let low = shorter (job.last + 1) lent.low in
          let high = shorter (job.last + 1) lent.high in
          let bound = shorter (job.last + 1) lent.bound in
          let mark = shorter (job.last + 1) lent.mark in
          let four = or_left (low || high || bound || mark) (shorter (work_places (job.last + 1)) lent.work) e in
          let three = or_left (low || high || bound) mark four in
          let two = or_left (low || high) bound three in
          record {
            entries = record {
              low_long = ltb-false _ _ (or_left low high two);
              high_long = ltb-false _ _ (or_right low high two);
              bound_long = ltb-false _ _ (or_right (low || high) bound three);
              work_long = ltb-false _ _ (or_right (low || high || bound || mark) (shorter (work_places (job.last + 1)) lent.work) e);
            };
            mark_long = ltb-false _ _ (or_right (low || high || bound) mark four);
          }

-- "a nonzero weight at 0 when k is above 1" is refused: further rows, of which there are k - 1, have a table without zeros
pub zeros_refused : (job : Job) (weights : List ℕ) (lent : Lent) (rest : List Condition)
    → first_refusal (checks job weights lent ++ rest) ≡ accepted → 1 < job.law.order → job.zero ≡ 0
zeros_refused job weights lent rest e above =
    let fails = (none_holds (checks job weights lent) rest tt e).0 11 in
    let none = and_fails (ltb 0 job.zero) (ltb 1 job.law.order) fails (lt-ltb 1 job.law.order above) in
    omega (arith, ltb-false 0 job.zero none)
