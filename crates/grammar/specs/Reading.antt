-- The sheet reader: "21: empty or over 16,384 bytes, line 0. Then line by line, in this order on a line: 22 .. 23 .. 24 .. 25, k not 1 to
-- 4, or m not 1 to 500; 27, the row has fewer than m places. After the final line, 26: bytes follow, at the line number they begin." Each
-- line goes on with the next, so that the order of refusals is that of the text below.
use Rattle.std.specs.Prelude.{true, false, cond, List, [], ◌∷◌, ◌++◌, ℕ, zero, suc, ◌+◌, ltb, ℤ, pos, length, set, replicate}
use Rattle.model.specs.declared.Law.{Law}
use Rattle.model.specs.declared.Start.{Start}
use Rattle.model.specs.declared.Job.{Job}
use Rattle.model.specs.Job.{law_of, start_of, job_of}
use Rattle.model.specs.Limits.{most_order, most_severities, outside}
use Rattle.lines.specs.Keywords.{LAW, TERM, START, LAST, ZERO, SEVERITY, W}
use Rattle.lines.specs.Line.{Line, numbers, faulty, line, signed, natural}
use Rattle.grammar.specs.Sheet.{Sheet}

-- what a sheet gives: its numbers, or the number of a refusal and its line
pub data Reading : Type 0 where
  reads : Sheet → Reading
  refuses : ℕ → ℕ → Reading

-- line n's numbers and the bytes after it go on to the next line; a refusal is the answer
abbrev pub on : Line → ℕ → (List ℤ → List ℕ → Reading) → Reading
on (numbers zs rest) n next = next zs rest
on (faulty number) n next = refuses number n

-- ---- what is known of a job as lines are read
abbrev pub no_terms : ℕ → ℕ → Law
no_terms order divisor = law_of order divisor (replicate most_order (pos 0)) (replicate most_order (pos 0))

abbrev pub with_term : Law → ℕ → ℤ → ℤ → Law
with_term law i a b = law_of law.order law.divisor (set law.a i a) (set law.b i b)

abbrev pub sheet_of : Job → List ℕ → Sheet
sheet_of job weights = record { job = job; weights = weights }

-- ---- the lines, from the last kind to the first: n is the number of the line at the start of s
-- `due` lines `W w`, after those of the weights ws, and nothing after them
unfoldable pub weight_lines : Job → List ℕ → ℕ → ℕ → List ℕ → Reading
weight_lines job ws zero n [] = reads (sheet_of job ws)
weight_lines job ws zero n (b ∷ s) = refuses 26 n
weight_lines job ws (suc due) n s =
    on (line false W 1 s) n (λ zs rest. weight_lines job (ws ++ (natural zs 0 ∷ [])) due (n + 1) rest)

-- `places` is the number of places that the lent row has
unfoldable pub severity_line : ℕ → Job → ℕ → List ℕ → Reading
severity_line places job n s =
    on (line false SEVERITY 1 s) n
    (λ zs rest. cond (outside 1 most_severities (natural zs 0)) (refuses 25 n)
    (cond (ltb places (natural zs 0)) (refuses 27 n)
    (weight_lines job [] (natural zs 0) (n + 1) rest)))

unfoldable pub zero_line : ℕ → Law → Start → ℕ → ℕ → List ℕ → Reading
zero_line places law start last n s =
    on (line false ZERO 1 s) n (λ zs rest. severity_line places (job_of law start last (natural zs 0)) (n + 1) rest)

unfoldable pub last_line : ℕ → Law → Start → ℕ → List ℕ → Reading
last_line places law start n s = on (line false LAST 1 s) n (λ zs rest. zero_line places law start (natural zs 0) (n + 1) rest)

unfoldable pub start_line : ℕ → Law → ℕ → List ℕ → Reading
start_line places law n s =
    on (line false START 2 s) n (λ zs rest. last_line places law (start_of (natural zs 0) (natural zs 1)) (n + 1) rest)

-- `due` lines `TERM A B`, after those of the first i terms, which the law has
unfoldable pub term_lines : ℕ → Law → ℕ → ℕ → List ℕ → Reading
term_lines places law i zero s = start_line places law (i + 2) s
term_lines places law i (suc due) s =
    on (line true TERM 2 s) (i + 2)
    (λ zs rest. term_lines places (with_term law i (signed zs 0) (signed zs 1)) (i + 1) due rest)

unfoldable pub law_line : ℕ → List ℕ → Reading
law_line places s =
    on (line false LAW 2 s) 1
    (λ zs rest. cond (outside 1 most_order (natural zs 0)) (refuses 25 1)
    (term_lines places (no_terms (natural zs 0) (natural zs 1)) 0 (natural zs 0) rest))

-- ---- the whole sheet
abbrev pub most_bytes : ℕ
most_bytes = 16384

unfoldable pub reading : ℕ → List ℕ → Reading
reading places s = cond (outside 1 most_bytes (length s)) (refuses 21 0) (law_line places s)
