-- By cases on what the reader reads, and on whether the curve accepts it.
use mathlib.Core.Path.{◌≡◌, refl}
use mathlib.Core.Bool.{false}
use mathlib.Core.Logic.{◌⊎◌, inl, inr}
use mathlib.Core.List.{List}
use Prim.Native.Nat.{ℕ}
use native.Mathlib.Omega.{arith}
use borrow.Author.Tests.{ne_eqb}
use lib.Dec.{eqb-suc-zero}
use Rattle.model.specs.declared.Job.{Job}
use Rattle.model.specs.Answer.{Answer, accepted, refused, is_accepted}
use Rattle.model.specs.Limits.{most_severities}
use Rattle.compound.specs.Call.{curve_answer}
use Rattle.grammar.specs.Sheet.{Sheet}
use Rattle.grammar.specs.Reading.{Reading, reads, refuses, reading}
use Rattle.grammar.proofs.Taken.{takes_only_texts, refusal_numbers}
use Rattle.grammar.proofs.Texts.{takes_all_texts}
use Rattle.report.specs.Report.{program_rows, curve_text, report_text, Table, Refusal, TableOrRefusal, AcceptedHasTable}
use Rattle.report.proofs.Fits.{answers}

abbrev Decided : Answer → Type 0
Decided answer = (answer ≡ accepted) ⊎ (is_accepted answer ≡ false)

decided : (job : Job) (weights : List ℕ) → Decided (curve_answer job weights program_rows)
decided job weights = answers job weights Decided (inl refl) (λ i place other. inr (eqb-suc-zero i))

pub table_or_refusal : TableOrRefusal
unfolding report_text curve_text
table_or_refusal s = by (reading most_severities s) refl
  where
    by_curve : (sheet : Sheet) → reading most_severities s ≡ reads sheet → Decided (curve_answer sheet.job sheet.weights program_rows)
        → Table s ⊎ Refusal s
    by_curve sheet e (inl a) =
        let taken = takes_only_texts most_severities s sheet e in
        inl (record { sheet = sheet; writable = taken.0; bytes = taken.2; answer = a; text = rw (e, a) })
    by_curve sheet e (inr a) =
        inr (record { answer = curve_answer sheet.job sheet.weights program_rows; due = rw e; refused = a; text = rw (e, a) })

    by : (r : Reading) → reading most_severities s ≡ r → Table s ⊎ Refusal s
    by (reads sheet) e = by_curve sheet e (decided sheet.job sheet.weights)
    by (refuses number n) e =
        let own = (refusal_numbers most_severities s number n e).0 in
        inr (record { answer = refused number n; due = rw e; refused = ne_eqb number 0 (λ z. omega arith); text = rw e })

pub accepted_has_table : AcceptedHasTable
unfolding report_text curve_text
accepted_has_table sheet writable e = rw (takes_all_texts most_severities sheet writable writable.count_most, e)
