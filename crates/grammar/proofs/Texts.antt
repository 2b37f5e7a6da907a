-- The text of a sheet reads back line by line, since the reader goes on after a line with what is printed after it. It fits since each of
-- its lines is short.
use mathlib.Core.Path.{◌≡◌, refl, ap, ◌∙◌}
use mathlib.Core.Bool.{false, true}
use mathlib.Core.List.{List, [], ◌∷◌, ◌++◌, append-nil, append_assoc}
use Prim.Native.Nat.{ℕ, zero, suc, ◌+◌, ◌*◌, ◌≤◌}
use native.Mathlib.Numerals.{add-one}
use native.Mathlib.Omega.{arith}
use borrow.Author.Tests.{le-ltb}
use lib.IntN.{ℤ, pos}
use lib.ListN.{length, get_or, set, replicate, length-append}
use Rattle.model.specs.declared.Law.{Law}
use Rattle.model.specs.declared.Job.{Job}
use Rattle.model.specs.Job.{law_of}
use Rattle.model.specs.Limits.{most_order, most_severities}
use Rattle.model.proofs.Tests.{inside}
use Rattle.text.specs.Lines.{has}
use Rattle.text.specs.Numbers.{AtMostTenDigits}
use Rattle.text.specs.LineText.{line_text}
use Rattle.lines.specs.Keywords.{LAW, TERM, START, LAST, ZERO, SEVERITY, W}
use Rattle.lines.proofs.LinePrinted.{Held, one, two, two_signed, line_printed, line_length}
use Rattle.grammar.specs.Sheet.{Sheet, terms_text, weights_text, sheet_text}
use Rattle.grammar.specs.Reading.{reads, no_terms, sheet_of}
use Rattle.grammar.specs.Reading.{weight_lines, severity_line, zero_line, last_line, start_line, term_lines, law_line, most_bytes, reading}
use Rattle.grammar.specs.Accepts.{Terms, Writable, TakesAllTexts, TextsFit}

-- ---- what is known of a law as its terms are read
-- the first i terms, and zero for the others
first_terms : ℕ → List ℤ → List ℤ
first_terms i [] = []
first_terms zero (z ∷ terms) = pos 0 ∷ first_terms zero terms
first_terms (suc i) (z ∷ terms) = z ∷ first_terms i terms

no_terms_lem : (terms : List ℤ) → first_terms 0 terms ≡ replicate (length terms) (pos 0)
unfolding first_terms
no_terms_lem [] = refl
no_terms_lem (z ∷ terms) = ap (λ (l : List ℤ). pos 0 ∷ l) (no_terms_lem terms)

next_term_lem : (i : ℕ) (terms : List ℤ) → set (first_terms i terms) i (get_or terms i (pos 0)) ≡ first_terms (suc i) terms
unfolding first_terms
next_term_lem i [] = refl
next_term_lem zero (z ∷ terms) = refl
next_term_lem (suc i) (z ∷ terms) = ap (λ (l : List ℤ). z ∷ l) (next_term_lem i terms)

-- terms past the order are zero already
all_terms : (order : ℕ) (terms : List ℤ) → ((i : ℕ) → order ≤ i → get_or terms i (pos 0) ≡ pos 0) → first_terms order terms ≡ terms
unfolding first_terms
all_terms order [] past = refl
all_terms zero (z ∷ terms) past = rw (all_terms zero terms (λ i h. past (suc i) (omega arith)), past 0 (omega arith))
all_terms (suc order) (z ∷ terms) past = ap (λ (l : List ℤ). z ∷ l) (all_terms order terms (λ i h. past (suc i) (omega arith)))

-- the law after i terms
abbrev known : Law → ℕ → Law
known law i = law_of law.order law.divisor (first_terms i law.a) (first_terms i law.b)

-- ---- the lines of terms: from term i + 1 on, and all of them
module _ (law : Law) (a : Terms law.order law.a) (b : Terms law.order law.b) where
  term_held : (i : ℕ) → Held true (get_or law.a i (pos 0) ∷ get_or law.b i (pos 0) ∷ [])
  term_held i = two_signed _ _ (a.small i) (b.small i)

  terms_left : (places : ℕ) (rest : List ℕ) (i due : ℕ) → i + due ≡ law.order
      → term_lines places (known law i) i due (terms_text law i due ++ rest) ≡ start_line places law (law.order + 2) rest
  unfolding term_lines terms_text has
  terms_left places rest i zero e =
      let end : i ≡ law.order = omega arith in
      rw (end, all_terms law.order law.a a.past, all_terms law.order law.b b.past)
  terms_left places rest i (suc due) e =
      rw (append_assoc, line_printed TERM (term_held i) refl refl, next_term_lem i law.a, next_term_lem i law.b, add-one)
      (terms_left places rest (suc i) due (omega arith))

  terms_read : (places : ℕ) (rest : List ℕ)
      → term_lines places (no_terms law.order law.divisor) 0 law.order (terms_text law 0 law.order ++ rest)
      ≡ start_line places law (law.order + 2) rest
  terms_read places rest =
      let none_of_a = no_terms_lem law.a ∙ ap (λ (n : ℕ). replicate n (pos 0)) a.four in
      let none_of_b = no_terms_lem law.b ∙ ap (λ (n : ℕ). replicate n (pos 0)) b.four in
      rw (none_of_a, none_of_b) at (terms_left places rest 0 law.order (omega arith))

  terms_length : (i due : ℕ) → length (terms_text law i due) ≤ 29 * due
  unfolding terms_text
  terms_length i zero = omega arith
  terms_length i (suc due) = simp length-append (omega (arith, line_length TERM (term_held i), terms_length (suc i) due))

-- ---- the lines of weights, after those of ws
weights_read : (job : Job) (ws more : List ℕ) (n : ℕ) → ((i : ℕ) → AtMostTenDigits (pos (get_or more i 0)))
    → weight_lines job ws (length more) n (weights_text more) ≡ reads (sheet_of job (ws ++ more))
unfolding weight_lines weights_text has
weights_read job ws [] n small = rw append-nil
weights_read job ws (w ∷ more) n small =
    rw (line_printed W (one (small 0)) refl refl)
    (weights_read job (ws ++ (w ∷ [])) more (n + 1) (λ i. small (suc i)) ∙ rw append_assoc)

weights_length : (ws : List ℕ) → ((i : ℕ) → AtMostTenDigits (pos (get_or ws i 0))) → length (weights_text ws) ≤ 14 * length ws
unfolding weights_text
weights_length [] small = omega arith
weights_length (w ∷ ws) small =
    simp length-append (omega (arith, line_length W (one (small 0)), weights_length ws (λ i. small (suc i))))

-- ---- the sheet
module _ (sheet : Sheet) (can : Writable sheet) where
  law_held : Held false (pos sheet.job.law.order ∷ pos sheet.job.law.divisor ∷ [])
  law_held = two (omega arith) can.divisor

  start_held : Held false (pos sheet.job.start.low ∷ pos sheet.job.start.high ∷ [])
  start_held = two can.low can.high

  last_held : Held false (pos sheet.job.last ∷ [])
  last_held = one can.last

  zero_held : Held false (pos sheet.job.zero ∷ [])
  zero_held = one can.zero

  count_held : Held false (pos (length sheet.weights) ∷ [])
  count_held = one (omega arith)

pub texts_fit : TextsFit
unfolding sheet_text
texts_fit sheet can =
    let law = sheet.job.law in
    simp length-append (omega (
      arith,
      line_length LAW (law_held sheet can),
      terms_length law can.a can.b 0 law.order,
      line_length START (start_held sheet can),
      line_length LAST (last_held sheet can),
      line_length ZERO (zero_held sheet can),
      line_length SEVERITY (count_held sheet can),
      weights_length sheet.weights can.weights,
    ))

some_text : (sheet : Sheet) → 1 ≤ length (sheet_text sheet)
unfolding sheet_text line_text
some_text sheet = omega arith

-- each line, and each limit, in the order of the reader
pub takes_all_texts : TakesAllTexts
unfolding reading law_line start_line last_line zero_line severity_line sheet_text has
takes_all_texts places sheet can room =
    let law = sheet.job.law in
    let count = length sheet.weights in
    rw (
      inside 1 most_bytes (length (sheet_text sheet)) (some_text sheet) (texts_fit sheet can),
      line_printed LAW (law_held sheet can) refl refl,
      inside 1 most_order law.order can.order_least can.order_most,
      terms_read law can.a can.b,
      line_printed START (start_held sheet can) refl refl,
      line_printed LAST (last_held sheet can) refl refl,
      line_printed ZERO (zero_held sheet can) refl refl,
      line_printed SEVERITY (count_held sheet can) refl refl,
      inside 1 most_severities count can.count_least can.count_most,
      le-ltb places count room,
    )
    (weights_read sheet.job [] sheet.weights _ can.weights)
