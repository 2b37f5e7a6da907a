-- By the reader's answer: an accepted sheet's text is that of its curve, a refused one's is the line of the refusal.
use Rattle.std.proofs.Common.{arith, ◌≡◌, ℕ, List, sym, ap, refl, ◌∙◌}
use Rattle.model.specs.Answer.{Answer, accepted, refused}
use Rattle.model.specs.Limits.{most_severities}
use Rattle.table.specs.Lines.{refusal_line}
use Rattle.lines.specs.declared.Reason.{Reason}
use Rattle.lines.specs.declared.Reason.TheVariants.{Size, Missing, Form, Word, Limit, Excess, Places}
use Rattle.lines.specs.Reason.{number_of}
use Rattle.grammar.specs.Reading.{Reading, reads, refuses, reading}
use Rattle.grammar.proofs.Taken.{refusal_numbers}
use Rattle.sheet.specs.Call.{Told, told}
use Rattle.report.specs.Report.{curve_text, reading_text, report_text}
use Rattle.report.proofs.put_report.Goals as goal

-- ---- the text, from what the reader tells
accepted_text : (s : List ℕ) (t : Told) → t ≡ told (reading most_severities s) → accepted ≡ t.answer
    → report_text s ≡ curve_text t.job t.weights
unfolding report_text
accepted_text s t tells a = by (reading most_severities s) refl tells
  where
    by : (r : Reading) → reading most_severities s ≡ r → t ≡ told r → reading_text r ≡ curve_text t.job t.weights
    by (reads sheet) e h = ap (λ (t : Told). curve_text t.job t.weights) (sym h)
    by (refuses number n) e h =
        let none : 0 ≡ number = ap (λ (x : Answer). x.number) (a ∙ ap (λ (t : Told). t.answer) h) in
        let own = (refusal_numbers most_severities s number n e).0 in
        absurd (omega arith)

refused_text : (s : List ℕ) (reason : Reason) (n : ℕ) → refused (number_of reason) n ≡ (told (reading most_severities s)).answer
    → report_text s ≡ refusal_line (refused (number_of reason) n)
unfolding report_text
refused_text s reason n = by (reading most_severities s)
  where
    not_none : (reason : Reason) → ¬ (number_of reason ≡ 0)
    not_none Size = λ e. omega arith
    not_none Missing = λ e. omega arith
    not_none Form = λ e. omega arith
    not_none Word = λ e. omega arith
    not_none Limit = λ e. omega arith
    not_none Excess = λ e. omega arith
    not_none Places = λ e. omega arith

    by : (r : Reading) → refused (number_of reason) n ≡ (told r).answer → reading_text r ≡ refusal_line (refused (number_of reason) n)
    by (reads sheet) a = absurd (not_none reason (ap (λ (x : Answer). x.number) a))
    by (refuses number line) a = ap refusal_line (sym a)

pub returns-in-Ok : goal.returns-in-Ok
returns-in-Ok c =
    let text = accepted_text c.args.sheet.now _ c.in-Ok.ensures.answer refl in
    rw text c.put_curve.ensures

pub returns-in-Err : goal.returns-in-Err
returns-in-Err c =
    let refusal = c.in-Err.refusal in
    let text = refused_text c.args.sheet.now refusal.reason refusal.place (ap (λ (t : Told). t.answer) c.in-Err.ensures.answer) in
    rw text c.put_refusal.ensures
