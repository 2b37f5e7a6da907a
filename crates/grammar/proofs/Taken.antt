-- The reader goes line by line, and one fact goes with it: the bytes so far are the text of what was read of them. At the end that is the
-- whole sheet; at a refusal it says at which line of the sheet the reader stands.
use mathlib.Core.Path.{◌≡◌, refl, sym, ap, subst, subst₂, ◌∙◌}
use mathlib.Core.Bool.{Bool, true, false, cond}
use mathlib.Core.List.{List, [], ◌∷◌, ◌++◌, append_assoc, append-nil}
use mathlib.Core.Option.{none}
use Prim.Native.Nat.{ℕ, zero, suc, ◌+◌, ◌-◌, ◌≤◌, ◌<◌}
use native.Mathlib.Decide.{ℕ_discrete}
use native.Mathlib.Numerals.{add-one}
use native.Mathlib.Omega.{arith}
use borrow.Author.Tests.{ltb-true, ltb-false}
use lib.Dec.{eqb, ltb, lit<}
use lib.IntN.{ℤ, pos}
use lib.ListN.{length, get_or, set, replicate, length-append, length-set}
use lib.Seq.{get_or-set_same, get_or-set_other}
use Rattle.algebra.specs.Table.{same_list}
use Rattle.model.specs.declared.Law.{Law}
use Rattle.model.specs.declared.Start.{Start}
use Rattle.model.specs.declared.Job.{Job}
use Rattle.model.specs.Limits.{most_order, most_severities, outside}
use Rattle.model.specs.Job.{start_of}
use Rattle.model.proofs.Tests.{within}
use Rattle.text.specs.Bytes.{line_end}
use Rattle.text.specs.Lines.{after, after_lines, line_at}
use Rattle.text.specs.Numbers.{AtMostTenDigits}
use Rattle.text.specs.LineText.{line_text}
use Rattle.text.proofs.Scan.{lines_last}
use Rattle.lines.specs.Keywords.{LAW, TERM, START, LAST, ZERO, SEVERITY, W}
use Rattle.lines.specs.Line.{Line, numbers, faulty, all_numbers, line, signed, natural, number_words, signs_on}
use Rattle.lines.proofs.LineParsed.{Parsed, LineFacts, line_facts, pair, one_natural, two_natural}
use Rattle.grammar.specs.Sheet.{terms_text, weights_text, sheet_text}
use Rattle.grammar.specs.Reading.{Reading, reads, refuses, on, no_terms, with_term, sheet_of}
use Rattle.grammar.specs.Reading.{weight_lines, severity_line, zero_line, last_line, start_line, term_lines, law_line, most_bytes, reading}
use Rattle.grammar.specs.Accepts.{Terms, Writable, TakesOnlyTexts, RefusalNumbers, NamesFaultyLine}

-- ---- what is read, and its text
-- a law whose first i terms are read
record LawFits (law : Law) (i : ℕ) : Type 0 where
  order_least : 1 ≤ law.order
  order_most : law.order ≤ most_order
  divisor : AtMostTenDigits (pos law.divisor)
  a : Terms i law.a
  b : Terms i law.b

record JobFits (job : Job) : Type 0 where
  law : LawFits job.law job.law.order
  low : AtMostTenDigits (pos job.start.low)
  high : AtMostTenDigits (pos job.start.high)
  last : AtMostTenDigits (pos job.last)
  zero : AtMostTenDigits (pos job.zero)

writable : (job : Job) (ws : List ℕ) → JobFits job → 1 ≤ length ws → length ws ≤ most_severities
    → ((i : ℕ) → AtMostTenDigits (pos (get_or ws i 0))) → Writable (sheet_of job ws)
writable job ws fits least most small = record {
  order_least = fits.law.order_least;
  order_most = fits.law.order_most;
  divisor = fits.law.divisor;
  a = fits.law.a;
  b = fits.law.b;
  low = fits.low;
  high = fits.high;
  last = fits.last;
  zero = fits.zero;
  count_least = least;
  count_most = most;
  weights = small;
}

abbrev law_text : Law → ℕ → List ℕ
law_text law i = line_text LAW (pos law.order ∷ pos law.divisor ∷ []) ++ terms_text law 0 i

abbrev start_text : Law → Start → List ℕ
start_text law start = law_text law law.order ++ line_text START (pos start.low ∷ pos start.high ∷ [])

abbrev last_text : Law → Start → ℕ → List ℕ
last_text law start last = start_text law start ++ line_text LAST (pos last ∷ [])

abbrev job_text : Job → List ℕ
job_text job = last_text job.law job.start job.last ++ line_text ZERO (pos job.zero ∷ [])

-- there are to be m weights, and the weights ws are read
abbrev table_text : Job → ℕ → List ℕ → List ℕ
table_text job m ws = (job_text job ++ line_text SEVERITY (pos m ∷ [])) ++ weights_text ws

all_text : (job : Job) (ws : List ℕ) → table_text job (length ws) ws ≡ sheet_text (sheet_of job ws)
unfolding sheet_text
all_text job ws = simp append_assoc

-- ---- one term more
zeros : (n i : ℕ) → get_or (replicate n (pos 0)) i (pos 0) ≡ pos 0
zeros zero i = refl
zeros (suc n) zero = refl
zeros (suc n) (suc i) = zeros n i

no_terms_lem : Terms 0 (replicate most_order (pos 0))
no_terms_lem = record { four = refl; past = λ i _. zeros most_order i; small = λ i. rw (zeros most_order i) (lit< tt) }

term_next : (i : ℕ) (terms : List ℤ) (z : ℤ) → i < most_order → AtMostTenDigits z → Terms i terms → Terms (i + 1) (set terms i z)
term_next i terms z h small t = record {
  four = length-set terms i z ∙ t.four;
  past = λ j l. get_or-set_other terms i j z (pos 0) (omega arith) ∙ t.past j (omega arith);
  small = λ j. by j (ℕ_discrete j i);
}
  where
    by : (j : ℕ) → Dec (j ≡ i) → AtMostTenDigits (get_or (set terms i z) j (pos 0))
    by j (yes e) = rw (e, get_or-set_same terms i z (pos 0) (omega (arith, t.four))) small
    by j (no d) = rw (get_or-set_other terms i j z (pos 0) d) (t.small j)

module _ (law : Law) (i : ℕ) (x y : ℤ) (fits : LawFits law i) (h : i < most_order) where
  law_next : AtMostTenDigits x → AtMostTenDigits y → LawFits (with_term law i x y) (i + 1)
  law_next x_small y_small = record {
    order_least = fits.order_least;
    order_most = fits.order_most;
    divisor = fits.divisor;
    a = term_next i law.a x h x_small fits.a;
    b = term_next i law.b y h y_small fits.b;
  }

  -- the terms before it are those that they were
  terms_next : (j due : ℕ) → j + due ≡ i
      → terms_text (with_term law i x y) j (suc due) ≡ terms_text law j due ++ line_text TERM (x ∷ y ∷ [])
  unfolding terms_text
  terms_next j zero e =
      let here : j ≡ i = omega arith in
      rw (here, get_or-set_same law.a i x (pos 0) (omega (arith, fits.a.four)), append-nil)
      (rw (get_or-set_same law.b i y (pos 0) (omega (arith, fits.b.four))))
  terms_next j (suc due) e =
      let earlier = line_text TERM (get_or law.a j (pos 0) ∷ get_or law.b j (pos 0) ∷ []) in
      rw (get_or-set_other law.a i j x (pos 0) (omega arith), get_or-set_other law.b i j y (pos 0) (omega arith))
      (ap (λ (l : List ℕ). earlier ++ l) (terms_next (suc j) due (omega arith))
      ∙ sym (append_assoc earlier (terms_text law (suc j) due) (line_text TERM (x ∷ y ∷ []))))

  law_text_lem : law_text law i ++ line_text TERM (x ∷ y ∷ []) ≡ law_text (with_term law i x y) (i + 1)
  law_text_lem = rw (append_assoc, add-one i, terms_next 0 i (omega arith))

-- ---- one weight more
weights_next : (ws : List ℕ) (w : ℕ) → weights_text (ws ++ (w ∷ [])) ≡ weights_text ws ++ line_text W (pos w ∷ [])
unfolding weights_text
weights_next [] w = append-nil (line_text W (pos w ∷ []))
weights_next (v ∷ ws) w =
    ap (λ (l : List ℕ). line_text W (pos v ∷ []) ++ l) (weights_next ws w)
    ∙ sym (append_assoc (line_text W (pos v ∷ [])) (weights_text ws) (line_text W (pos w ∷ [])))

table_text_lem : (job : Job) (m : ℕ) (ws : List ℕ) (w : ℕ) → table_text job m ws ++ line_text W (pos w ∷ []) ≡ table_text job m (ws ++ (w ∷ []))
table_text_lem job m ws w = rw (append_assoc (job_text job ++ line_text SEVERITY (pos m ∷ [])), weights_next ws w)

weight_small : (ws : List ℕ) (w : ℕ) → AtMostTenDigits (pos w) → ((i : ℕ) → AtMostTenDigits (pos (get_or ws i 0)))
    → (i : ℕ) → AtMostTenDigits (pos (get_or (ws ++ (w ∷ [])) i 0))
weight_small [] w h small zero = h
weight_small [] w h small (suc i) = lit< tt
weight_small (v ∷ ws) w h small zero = small 0
weight_small (v ∷ ws) w h small (suc i) = weight_small ws w h (λ j. small (suc j)) i

-- ---- one line more
module _ (places : ℕ) (all : List ℕ) where
  -- what is to be shown of the reading of a whole sheet
  record Refusal (number n : ℕ) : Type 0 where
    least : 21 ≤ number
    most : number ≤ 27
    places_few : number ≡ 27 → places < most_severities
    word : number ≡ 24 → all_numbers (signs_on (line_at n all)) (number_words (line_at n all)) ≡ none

  abbrev Right : Reading → Type 0
  Right (reads sheet) = Writable sheet × (length sheet.weights ≤ places) × (all ≡ sheet_text sheet)
  Right (refuses number n) = Refusal number n

  -- the reader stands at line n: the bytes `done` are read, and s is what follows them
  record Stands (n : ℕ) (done s : List ℕ) : Type 0 where
    from_one : 1 ≤ n
    split : all ≡ done ++ s
    reached : after_lines (n - 1) all ≡ s

  -- a line that is refused, and one that lets the reader go on
  module _ (signs : Bool) (keyword : List ℕ) (count : ℕ) {n : ℕ} {done s : List ℕ} where
    goes_on : (next : List ℤ → List ℕ → Reading) → same_list eqb keyword TERM ≡ signs → Stands n done s
        → ((zs : List ℤ) (rest : List ℕ) → Parsed signs keyword count s zs rest → Stands (n + 1) (done ++ line_text keyword zs) rest
        → Right (next zs rest))
        → Right (on (line signs keyword count s) n next)
    goes_on next same here right = by (line signs keyword count s) (line_facts signs keyword count s)
      where
        by : (l : Line) → LineFacts signs keyword count s l → Right (on l n next)
        by (numbers zs rest) p =
            let from_one = here.from_one in
            right zs rest p (record {
              from_one = omega arith;
              split = here.split ∙ ap (λ (l : List ℕ). done ++ l) p.text ∙ sym (append_assoc done (line_text keyword zs) rest);
              reached = ap (λ (k : ℕ). after_lines k all) (omega arith) ∙ lines_last (n - 1) all
                  ∙ ap (after line_end) here.reached ∙ p.next;
            })
        by (faulty reason) f = record {
          least = omega (arith, f.least);
          most = omega (arith, f.most);
          places_few = λ e. absurd (omega (arith, f.most));
          word = λ e.
              let says = ap (λ (w : List ℕ). same_list eqb w TERM) (f.begins e) ∙ same in
              rw (here.reached, says) (f.word e);
        }

  -- a refusal for the sheet, but not for a line's words, and the one for the row
  for_sheet : (number n : ℕ) → 21 ≤ number → number ≤ 26 → (number ≡ 24 → ⊥) → Refusal number n
  for_sheet number n least most other = record {
    least = least;
    most = omega arith;
    places_few = λ e. absurd (omega arith);
    word = λ e. absurd (other e);
  }

  for_row : (m n : ℕ) → m ≤ most_severities → places < m → Refusal 27 n
  for_row m n most few =
      record { least = omega arith; most = omega arith; places_few = λ _. omega arith; word = λ e. absurd (omega arith) }

  -- a test of the line's numbers, and what follows where it fails
  unless : (t : Bool) (number n : ℕ) (r : Reading) → (t ≡ true → Refusal number n) → (t ≡ false → Right r)
      → Right (cond t (refuses number n) r)
  unless true number n r refusal right = refusal refl
  unless false number n r refusal right = right refl

  -- ---- the lines, from the last kind to the first
  module _ (job : Job) (m : ℕ) (fits : JobFits job) (least : 1 ≤ m) (most : m ≤ most_severities) (room : m ≤ places) where
    weights : (ws : List ℕ) (due n : ℕ) (s : List ℕ) → length ws + due ≡ m → ((i : ℕ) → AtMostTenDigits (pos (get_or ws i 0)))
        → Stands n (table_text job m ws) s → Right (weight_lines job ws due n s)
    unfolding weight_lines
    weights ws zero n [] e small here =
        let counted : m ≡ length ws = omega arith in
        let text = here.split ∙ append-nil (table_text job m ws) ∙ ap (λ (k : ℕ). table_text job k ws) counted ∙ all_text job ws in
        (writable job ws fits (omega arith) (omega arith) small, omega arith, text)
    weights ws zero n (b ∷ s) e small here = for_sheet 26 n (omega arith) (omega arith) (λ h. omega arith)
    weights ws (suc due) n s e small here = goes_on false W 1 _ refl here λ zs rest p there.
        let w = natural zs 0 in
        weights (ws ++ (w ∷ [])) due (n + 1) rest (simp length-append (omega arith)) (weight_small ws w (p.small 0) small)
        (rw (one_natural p, table_text_lem job m ws w) at there)

  severity : (job : Job) (n : ℕ) (s : List ℕ) → JobFits job → Stands n (job_text job) s → Right (severity_line places job n s)
  unfolding severity_line weights_text
  severity job n s fits here = goes_on false SEVERITY 1 _ refl here λ zs rest p there.
      let m = natural zs 0 in
      unless (outside 1 most_severities m) 25 n _ (λ _. for_sheet 25 n (omega arith) (omega arith) (λ e. omega arith)) λ inside.
      let limits = within 1 most_severities m inside in
      unless (ltb places m) 27 n _ (λ t. for_row m n limits.1 (ltb-true places m t)) λ room.
      weights job m fits limits.0 limits.1 (ltb-false places m room) [] m (n + 1) rest (omega arith) (λ i. lit< tt)
      (rw append-nil (rw (one_natural p) at there))

  zero_weight : (law : Law) (start : Start) (last n : ℕ) (s : List ℕ) → LawFits law law.order
      → AtMostTenDigits (pos start.low) → AtMostTenDigits (pos start.high) → AtMostTenDigits (pos last)
      → Stands n (last_text law start last) s → Right (zero_line places law start last n s)
  unfolding zero_line
  zero_weight law start last n s fits low high last_small here = goes_on _ ZERO 1 _ refl here λ zs rest p there.
      severity _ (n + 1) rest
      (record { law = fits; low = low; high = high; last = last_small; zero = omega (arith, p.small 0) })
      (rw (one_natural p) at there)

  last : (law : Law) (start : Start) (n : ℕ) (s : List ℕ) → LawFits law law.order
      → AtMostTenDigits (pos start.low) → AtMostTenDigits (pos start.high) → Stands n (start_text law start) s
      → Right (last_line places law start n s)
  unfolding last_line
  last law start n s fits low high here = goes_on false LAST 1 _ refl here λ zs rest p there.
      zero_weight law start (natural zs 0) (n + 1) rest fits low high (p.small 0) (rw (one_natural p) at there)

  start : (law : Law) (n : ℕ) (s : List ℕ) → LawFits law law.order → Stands n (law_text law law.order) s
      → Right (start_line places law n s)
  unfolding start_line
  start law n s fits here = goes_on false START 2 _ refl here λ zs rest p there.
      last law (start_of (natural zs 0) (natural zs 1)) (n + 1) rest fits (p.small 0) (p.small 1) (rw (two_natural p) at there)

  terms : (law : Law) (i due : ℕ) (s : List ℕ) → i + due ≡ law.order → LawFits law i → Stands (i + 2) (law_text law i) s
      → Right (term_lines places law i due s)
  unfolding term_lines
  terms law i zero s e fits here =
      let all_read : i ≡ law.order = omega arith in
      start law (i + 2) s (subst (LawFits law) all_read fits) (subst (λ k. Stands (i + 2) (law_text law k) s) all_read here)
  terms law i (suc due) s e fits here = goes_on true TERM 2 _ refl here λ zs rest p there.
      let x = signed zs 0 in
      let y = signed zs 1 in
      let h : i < most_order = omega (arith, fits.order_most) in
      let text = ap (λ (l : List ℤ). law_text law i ++ line_text TERM l) (pair zs p.counted) ∙ law_text_lem law i x y fits h in
      terms (with_term law i x y) (i + 1) due rest (omega arith) (law_next law i x y fits h (p.small 0) (p.small 1))
      (subst₂ (λ n done. Stands n done rest) (omega arith) text there)

  law : (s : List ℕ) → Stands 1 [] s → Right (law_line places s)
  unfolding law_line terms_text
  law s here = goes_on false LAW 2 _ refl here λ zs rest p there.
      let k = natural zs 0 in
      unless (outside 1 most_order k) 25 1 _ (λ _. for_sheet 25 1 (omega arith) (omega arith) (λ e. omega arith)) λ inside.
      let limits = within 1 most_order k inside in
      terms (no_terms k (natural zs 1)) 0 k rest (omega arith)
      (record { order_least = limits.0; order_most = limits.1; divisor = p.small 1; a = no_terms_lem; b = no_terms_lem })
      (rw append-nil (rw (two_natural p) at there))

  right : Right (reading places all)
  unfolding reading after_lines
  right = unless (outside 1 most_bytes (length all)) 21 0 _ (λ _. for_sheet 21 0 (omega arith) (omega arith) (λ e. omega arith)) λ _.
      law all (record { from_one = omega arith; split = refl; reached = refl })

pub takes_only_texts : TakesOnlyTexts
takes_only_texts places s sheet e = subst (Right places s) e (right places s)

pub refusal_numbers : RefusalNumbers
refusal_numbers places s number n e =
    let refusal = subst (Right places s) e (right places s) in
    (refusal.least, refusal.most, refusal.places_few)

pub names_faulty_line : NamesFaultyLine
names_faulty_line places s n e = (subst (Right places s) e (right places s)).word refl
