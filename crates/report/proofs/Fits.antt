-- Limits are checked before room is: the reader refuses more than 500 weights before it looks at its row's places, and the curve more than
-- 501 totals before it looks at its rows'. So a table has at most 501 lines, of at most 40 bytes each, since its totals and the entries of
-- an accepted job are small. An input that is cut off was too long, and still is.
use mathlib.Core.Path.{◌≡◌, refl, sym, ◌∙◌, ap}
use mathlib.Core.Bool.{Bool, true, false, cond, false≢true, or-true}
use mathlib.Core.List.{List}
use Prim.Native.Nat.{ℕ, zero, suc, ◌+◌, ◌*◌, ◌≤◌, ◌<◌}
use native.Mathlib.Omega.{arith}
use borrow.Author.Tests.{ltb-true, ltb-false, lt-ltb, le-ltb}
use lib.Dec.{ltb, eqb-suc-zero}
use lib.IntN.{ℤ, pos}
use lib.ListN.{length, get_or, take, length-append, length-replicate}
use lib.Seq.{take_all, length-take-le}
use Rattle.model.specs.declared.Job.{Job}
use Rattle.model.specs.Answer.{Answer, accepted, refused, is_accepted}
use Rattle.model.specs.Limits.{most_severities, most_last, most_totals}
use Rattle.model.proofs.Answer.{first_none, by_first}
use Rattle.enclosure.specs.declared.Entry.{Entry}
use Rattle.enclosure.specs.Term.{entry_of, Small}
use Rattle.rows.specs.Layout.{work_places}
use Rattle.compound.specs.Lent.{lent_rows}
use Rattle.compound.specs.Call.{too_short, curve_answer, curve_lent}
use Rattle.compound.proofs.Accepted.{limits, entry_small}
use Rattle.text.specs.Lines.{spaced}
use Rattle.text.specs.Numbers.{decimal}
use Rattle.text.specs.LineText.{line_text}
use Rattle.text.proofs.Decimal.{digits_length, decimal_length, decimal_short}
use Rattle.table.specs.Lines.{total_line, total_lines, refusal_line}
use Rattle.grammar.specs.Reading.{Reading, reads, refuses, most_bytes, reading}
use Rattle.grammar.proofs.Taken.{refusal_numbers}
use Rattle.report.specs.Report.{zeros, program_rows, rows_text, curve_text, reading_text, report_text}
use Rattle.report.specs.Fits.{WeightsFit, TotalsFit, text_bytes, TextFits, input_bytes, InputFits}

-- ---- the weights
pub weights_fit : WeightsFit
weights_fit s n e = let few = (refusal_numbers most_severities s 27 n e).2 refl in omega arith

-- ---- the totals
-- rows for `most` totals are long enough for fewer
long_enough : (places most : ℕ) → places ≤ most
    → too_short places (lent_rows (zeros most) (zeros most) (zeros most) (zeros most) (zeros (work_places most))) ≡ false
long_enough places most h = simp (length-replicate, le-ltb most places h, le-ltb (work_places most) (work_places places) (omega arith))

-- so the answer is an acceptance or a refusal, but by 8
pub answers : (job : Job) (weights : List ℕ) (P : Answer → Type 0) → P accepted
    → ((i place : ℕ) → ¬ (suc i ≡ 8) → P (refused (suc i) place)) → P (curve_answer job weights program_rows)
unfolding curve_answer
answers job weights P acceptance refusal =
    by_first P _ 1 _ _ (λ _. refusal 0 _ (λ e. omega arith)) λ _.
    by_first P _ 2 _ _ (λ _. refusal 1 _ (λ e. omega arith)) λ _.
    by_first P _ 3 _ _ (λ _. refusal 2 _ (λ e. omega arith)) λ _.
    by_first P _ 4 _ _ (λ _. refusal 3 _ (λ e. omega arith)) λ _.
    by_first P _ 5 _ _ (λ _. refusal 4 _ (λ e. omega arith)) λ _.
    by_first P _ 6 _ _ (λ _. refusal 5 _ (λ e. omega arith)) λ _.
    by_first P _ 11 _ _ (λ _. refusal 10 _ (λ e. omega arith)) λ _.
    by_first P _ 12 _ _ (λ _. refusal 11 _ (λ e. omega arith)) λ _.
    by_first P _ 13 _ _ (λ _. refusal 12 _ (λ e. omega arith)) λ _.
    by_first P _ 7 _ _ (λ _. refusal 6 _ (λ e. omega arith)) λ last.
    by_first P (too_short (job.last + 1) program_rows) 8 _ _ (λ t. absurd (false≢true (
    sym (long_enough (job.last + 1) most_totals (omega (arith, ltb-false most_last job.last last))) ∙ t
    ))) λ _.
    by_first P _ 9 _ _ (λ _. refusal 8 _ (λ e. omega arith)) λ _.
    by_first P _ 10 _ _ (λ _. refusal 9 _ (λ e. omega arith)) λ _. rw first_none acceptance

pub totals_fit : TotalsFit
totals_fit job weights = answers job weights (λ a. ¬ (a.number ≡ 8)) (λ e. omega arith) (λ i place other. other)

-- ---- the text
-- a total has at most 3 digits; a number of a small entry has at most 10, and a sign
total_short : (total : ℕ) (e : Entry) (mark : ℤ) → total < most_totals → Small e
    → length (total_line total e.low e.high e.bound mark) ≤ 42
unfolding spaced decimal
total_short total e mark few small = simp length-append (omega (
  arith,
  digits_length 2 total (omega arith),
  decimal_length e.low (omega arith),
  decimal_length e.high (omega arith),
  decimal_length e.bound (omega arith),
))

lines_short : (totals : ℕ) (low high bound mark : List ℤ) → totals ≤ most_totals
    → ((x : ℕ) → x < totals → Small (entry_of low high bound x)) → length (total_lines totals low high bound mark) ≤ 42 * totals
unfolding total_lines
lines_short zero low high bound mark few small = omega arith
lines_short (suc x) low high bound mark few small = rw length-append (omega (
  arith,
  lines_short x low high bound mark (omega arith) (λ y l. small y (omega arith)),
  total_short x (entry_of low high bound x) (get_or mark x (pos 0)) few (small x (omega arith)),
))

refusal_short : (answer : Answer) → length (refusal_line answer) ≤ text_bytes
unfolding line_text spaced
refusal_short answer = simp length-append (omega (arith, decimal_short (pos answer.number), decimal_short (pos answer.place)))

module _ (job : Job) (weights : List ℕ) where
  -- an accepted job has at most 501 totals, and its entries are small
  table_short : curve_answer job weights program_rows ≡ accepted → length (rows_text job (curve_lent job weights program_rows)) ≤ text_bytes
  table_short ok =
      let rows = curve_lent job weights program_rows in
      let few : job.last + 1 ≤ most_totals = omega (arith, (limits job weights program_rows ok).last_most) in
      simp length-append (omega (
        arith,
        lines_short (job.last + 1) rows.low rows.high rows.bound rows.mark few (entry_small job weights program_rows ok),
      ))

  curve_short : length (curve_text job weights) ≤ text_bytes
  unfolding curve_text
  curve_short = answers job weights
      (λ a. curve_answer job weights program_rows ≡ a
      → length (cond (is_accepted a) (rows_text job (curve_lent job weights program_rows)) (refusal_line a)) ≤ text_bytes)
      table_short (λ i place _ _. rw (eqb-suc-zero i) (refusal_short (refused (suc i) place))) refl

reading_short : (r : Reading) → length (reading_text r) ≤ text_bytes
reading_short (reads sheet) = curve_short sheet.job sheet.weights
reading_short (refuses number n) = refusal_short (refused number n)

pub text_fits : TextFits
unfolding report_text
text_fits s = reading_short (reading most_severities s)

-- ---- the input
too_long : (places : ℕ) (s : List ℕ) → most_bytes < length s → reading places s ≡ refuses 21 0
unfolding reading
too_long places s h = rw (lt-ltb most_bytes (length s) h, or-true)

pub input_fits : InputFits
unfolding report_text
input_fits s = ap reading_text (by (ltb most_bytes (length s)) refl)
  where
    by : (t : Bool) → ltb most_bytes (length s) ≡ t → reading most_severities (take input_bytes s) ≡ reading most_severities s
    by true e =
        let long = ltb-true most_bytes (length s) e in
        too_long most_severities (take input_bytes s) (omega (arith, length-take-le input_bytes s (omega arith)))
        ∙ sym (too_long most_severities s long)
    by false e = ap (reading most_severities) (take_all input_bytes s (omega (arith, ltb-false most_bytes (length s) e)))
