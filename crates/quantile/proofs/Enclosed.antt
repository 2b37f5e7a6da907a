-- Amounts that are larger at each total reach a level where smaller ones do (`reached_more`). The lows, the amounts that the rows enclose
-- and the highs are in this order, so their quantiles are in the opposite one.
use mathlib.Core.Path.{◌≡◌, refl, sym, ap, ◌∙◌}
use mathlib.Core.Bool.{true, false, true≢false, cond}
use mathlib.Core.List.{List, [], ◌++◌}
use Prim.Native.Nat.{ℕ, ◌≤◌, ◌<◌}
use native.Mathlib.Nat as NL
use native.Mathlib.Decide.{dec_le}
use native.Mathlib.Omega.{arith}
use borrow.Author.Tests.{eqb-true, eqb-false, eq-eqb, ne_eqb}
use lib.Dec.{T, eqb}
use lib.IntN.{ℤ, pos}
use lib.Signed.{le_z}
use lib.ListN.{length, get_or}
use Rattle.algebra.specs.Fraction.{Fraction, whole, ◌≼◌, zero_to}
use Rattle.algebra.proofs.Smallest.{smallest_finds, least_exists}
use Rattle.algebra.proofs.Value.{≼_trans, ≼-dec, zero_to_mono, whole_mono, whole_le_sum, le_of_whole_sum}
use Rattle.model.specs.Answer.{Answer, Condition, accepted, refused, is_accepted, first_refusal}
use Rattle.model.proofs.Answer.{first_none, first_holds, first_fails, by_first, lacks, none_holds}
use Rattle.intervals.specs.Amounts.{entries, Enclose}
use Rattle.intervals.proofs.Passed.{Passed, passed}
use Rattle.quantile.specs.Call.{running_sum, quantile_of, checks, unreached, reach_check, query_by, sure_query, possible_query}
use Rattle.quantile.specs.Enclosed.{Reached, UnreachedBefore, Quantile, QuantileFrom, Accepted, QueriesTrue}
use Rattle.quantile.specs.Enclosed.{OneQuantile, SureOfLows, PossibleOfHighs, PossibleWithSure, ShortTogether, QuantileEnclosed}

-- ---- amounts
reached_more : (f g : ℕ → Fraction) (level : ℤ) (x : ℕ) → ((z : ℕ) → z ≤ x → f z ≼ g z) → Reached f level x → Reached g level x
reached_more f g level x larger reached = ≼_trans reached (zero_to_mono x f g larger)

unreached_less : (f g : ℕ → Fraction) (level : ℤ) (n : ℕ) → ((z : ℕ) → z < n → f z ≼ g z)
    → UnreachedBefore g level n → UnreachedBefore f level n
unreached_less f g level n larger none y l reached = none y l (reached_more f g level y (λ z m. larger z (omega arith)) reached)

not_before : (amount : ℕ → Fraction) (level : ℤ) (x y : ℕ) → Reached amount level x → UnreachedBefore amount level y → y ≤ x
not_before amount level x y reached none = by (dec_le y x)
  where
    by : Dec (y ≤ x) → y ≤ x
    by (yes l) = l
    by (no l) = absurd (none x (omega arith) reached)

-- where a sum reaches the level, and none before `least` does, there is a first that does
quantile_from : (amount : ℕ → Fraction) (level : ℤ) (least most : ℕ) → UnreachedBefore amount level least → Reached amount level most
    → QuantileFrom least most amount level
quantile_from amount level least most none reached =
    by (least_exists (Reached amount level) (λ y. ≼-dec (whole level) (zero_to y amount)) most reached)
  where
    by : (x : ℕ) × (x ≤ most) × Reached amount level x × UnreachedBefore amount level x → QuantileFrom least most amount level
    by (x, le, there, before) = (x, record { reached = there; first = before }, not_before amount level x least there none, le)

pub one_quantile : OneQuantile
one_quantile amount level x y p q =
    NL.le_antisymm (not_before amount level y x q.reached p.first) (not_before amount level x y p.reached q.first)

-- ---- a row
module _ (row : List ℤ) (level : ℤ) where
  row_reaches : (x : ℕ) → le_z level (running_sum row x) ≡ true → Reached (entries row) level x
  row_reaches x e = whole_le_sum level x (λ z. get_or row z (pos 0)) (record { le = rw e tt })

  row_fails : (x : ℕ) → le_z level (running_sum row x) ≡ false → ¬ Reached (entries row) level x
  row_fails x e h = rw e at (le_of_whole_sum level x (λ z. get_or row z (pos 0)) h).le

  pub row_at_most : quantile_of row level ≤ length row
  unfolding quantile_of
  row_at_most = (smallest_finds (λ x. le_z level (running_sum row x)) (length row)).0

  row_below : unreached row level ≡ false → quantile_of row level < length row
  row_below e = omega (arith, row_at_most, eqb-false (quantile_of row level) (length row) e)

  row_reached : quantile_of row level < length row → Reached (entries row) level (quantile_of row level)
  unfolding quantile_of
  row_reached l = row_reaches _ ((smallest_finds (λ x. le_z level (running_sum row x)) (length row)).2 l)

  row_unreached : UnreachedBefore (entries row) level (quantile_of row level)
  unfolding quantile_of
  row_unreached z l = row_fails z ((smallest_finds (λ x. le_z level (running_sum row x)) (length row)).1 z l)

  row_quantile : quantile_of row level < length row → Quantile (entries row) level (quantile_of row level)
  row_quantile l = record { reached = row_reached l; first = row_unreached }

-- ---- what the answers say of the rows
-- none of the checks holds, so that what follows them is what counts
record ChecksPassed (low high : List ℤ) (level : ℤ) : Type 0 where
  rows : Passed low high
  skipped : (own : List Condition) → first_refusal (checks low high level ++ own) ≡ first_refusal own

-- a call by a row that is accepted
record AcceptedBy (row low high : List ℤ) (level : ℤ) (total : ℕ) : Type 0 where
  checked : ChecksPassed low high level
  below : quantile_of row level < length row
  is : total ≡ quantile_of row level

module _ (row : List ℤ) (number : ℕ) (low high : List ℤ) (level : ℤ) where
  -- the answer is no refusal of the checks
  past_checks : {answer : Answer} → T (lacks answer.number (checks low high level))
      → (query_by row number low high level).answer ≡ answer → ChecksPassed low high level × (first_refusal (reach_check row number level) ≡ answer)
  past_checks t e =
      let fails = none_holds (checks low high level) (reach_check row number level) t e in (
        record {
          rows = passed low high (fails.0 31) (fails.0 33);
          skipped = λ own. first_fails _ _ (fails.0 31) ∙ first_fails _ _ (fails.0 32) ∙ first_fails _ _ (fails.0 33);
        },
        fails.1,
      )

  row_checked : eqb number 0 ≡ false → first_refusal (reach_check row number level) ≡ accepted → unreached row level ≡ false
  row_checked numbered = by_first (λ a. a ≡ accepted → unreached row level ≡ false) _ number 0 []
      (λ holds e. absurd (true≢false (sym (ap is_accepted e) ∙ numbered))) (λ fails e. fails)

  accepted_by : eqb number 0 ≡ false → Accepted (query_by row number low high level)
      → AcceptedBy row low high level (query_by row number low high level).total
  accepted_by numbered ok = let passes = past_checks tt ok in record {
    checked = passes.0;
    below = row_below row level (row_checked numbered passes.1);
    is = ap (λ (a : Answer). cond (is_accepted a) (quantile_of row level) 0) ok;
  }

module _ (low high : List ℤ) (level : ℤ) where
  abbrev by_lows : ℕ
  by_lows = quantile_of low level

  abbrev by_highs : ℕ
  by_highs = quantile_of high level

  sure_by : Accepted (sure_query low high level) → AcceptedBy low low high level (sure_query low high level).total
  unfolding sure_query
  sure_by = accepted_by low 34 low high level refl

  possible_by : Accepted (possible_query low high level) → AcceptedBy high low high level (possible_query low high level).total
  unfolding possible_query
  possible_by = accepted_by high 35 low high level refl

  -- 35 is about the highs alone
  highs_short : first_refusal (reach_check high 35 level) ≡ refused 35 0 → unreached high level ≡ true
  highs_short = by_first (λ a. a ≡ refused 35 0 → unreached high level ≡ true) _ 35 0 [] (λ holds e. holds)
      (λ fails e. absurd (true≢false (ap is_accepted (sym first_none ∙ e))))

  short_by : (possible_query low high level).answer ≡ refused 35 0 → ChecksPassed low high level × (by_highs ≡ length high)
  unfolding possible_query
  short_by e = let passes = past_checks high 35 low high level tt e in (passes.0, eqb-true _ _ (highs_short passes.1))

  -- ---- lows before highs
  lows_unreached : Passed low high → UnreachedBefore (entries low) level by_highs
  lows_unreached rows =
      unreached_less (entries low) (entries high) level by_highs
      (λ z l. whole_mono (rows.ordered z (omega (arith, rows.same, row_at_most high level)))) (row_unreached high level)

  in_order : Passed low high → by_lows < length low → by_highs ≤ by_lows
  in_order rows below = not_before (entries low) level by_lows by_highs (row_reached low level below) (lows_unreached rows)

  possible_too : Accepted (sure_query low high level) → Accepted (possible_query low high level)
  unfolding possible_query
  possible_too ok =
      let by = sure_by ok in
      let rows = by.checked.rows in
      let below : by_highs < length high = omega (arith, in_order rows by.below, by.below, rows.same) in
      by.checked.skipped (reach_check high 35 level)
      ∙ first_fails _ [] (ne_eqb by_highs (length high) (λ same. omega (arith, same, below)))
      ∙ first_none

  -- lows that reached the level would do so before the highs' end
  lows_short : ChecksPassed low high level → by_highs ≡ length high → by_lows ≡ length low
  lows_short checked e = by (dec_le (length low) by_lows)
    where
      by : Dec (length low ≤ by_lows) → by_lows ≡ length low
      by (yes l) = NL.le_antisymm (row_at_most low level) l
      by (no l) =
          let below : by_lows < length low = omega arith in
          let no_later = in_order checked.rows below in
          absurd (omega (arith, below, no_later, e, checked.rows.same))

  sure_too : (possible_query low high level).answer ≡ refused 35 0 → (sure_query low high level).answer ≡ refused 34 0
  unfolding sure_query
  sure_too e =
      let by = short_by e in
      by.0.skipped (reach_check low 34 level) ∙ first_holds _ [] (eq-eqb by_lows (length low) (lows_short by.0 by.1))

  -- ---- the amounts between them
  module _ (amount : ℕ → Fraction) (inside : Enclose low high amount) where
    reached_by_lows : by_lows < length low → Reached amount level by_lows
    reached_by_lows below =
        reached_more (entries low) amount level by_lows (λ z l. (inside z (omega arith)).0) (row_reached low level below)

    unreached_by_highs : Passed low high → UnreachedBefore amount level by_highs
    unreached_by_highs rows =
        unreached_less amount (entries high) level by_highs (λ z l. (inside z (omega (arith, rows.same, row_at_most high level))).1)
        (row_unreached high level)

    queries_true : QueriesTrue low high level amount
    queries_true = record {
      sure_reached = λ ok. let by = sure_by ok in rw by.is (reached_by_lows by.below);
      between = λ ok. let by = sure_by ok in
          rw (by.is, (possible_by (possible_too ok)).is)
          (quantile_from amount level by_highs by_lows (unreached_by_highs by.checked.rows) (reached_by_lows by.below));
      before_possible = λ ok. let by = possible_by ok in rw by.is (unreached_by_highs by.checked.rows);
      at_least_possible = λ ok x quantile. let by = possible_by ok in
          rw by.is (not_before amount level x by_highs quantile.reached (unreached_by_highs by.checked.rows));
      none_reached = λ short. let by = short_by short in
          rw (by.0.rows.same, sym by.1) (unreached_by_highs by.0.rows);
    }

pub sure_of_lows : SureOfLows
sure_of_lows low high level ok = let by = sure_by low high level ok in rw by.is (row_quantile low level by.below, by.below)

pub possible_of_highs : PossibleOfHighs
possible_of_highs low high level ok = let by = possible_by low high level ok in rw by.is (row_quantile high level by.below, by.below)

pub possible_with_sure : PossibleWithSure
possible_with_sure low high level ok =
    let by = sure_by low high level ok in
    let too = possible_too low high level ok in
    (too, rw (by.is, (possible_by low high level too).is) (in_order low high level by.checked.rows by.below))

pub short_together : ShortTogether
short_together = sure_too

pub quantile_enclosed : QuantileEnclosed
quantile_enclosed = queries_true
