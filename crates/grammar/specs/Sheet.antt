-- The numbers that a sheet holds, and the sheet as text: "Lines in order: `LAW k D`; k lines `TERM A B`; `START s t`; `LAST X`;
-- `ZERO w`; `SEVERITY m`; m lines `W w`."
use Rattle.std.specs.Prelude.{List, [], ◌∷◌, ◌++◌, ℕ, zero, suc, pos, length, get_or}
use Rattle.model.specs.declared.Law.{Law}
use Rattle.model.specs.declared.Job.{Job}
use Rattle.text.specs.LineText.{line_text}
use Rattle.lines.specs.Keywords.{LAW, TERM, START, LAST, ZERO, SEVERITY, W}

-- a job and the weights of its table
pub record Sheet : Type 0 where
  pub job : Job
  pub weights : List ℕ

-- ---- the text
-- the lines of `due` terms, the first of them term i + 1
unfoldable pub terms_text : Law → ℕ → ℕ → List ℕ
terms_text law i zero = []
terms_text law i (suc due) = line_text TERM (get_or law.a i (pos 0) ∷ get_or law.b i (pos 0) ∷ []) ++ terms_text law (suc i) due

unfoldable pub weights_text : List ℕ → List ℕ
weights_text [] = []
weights_text (w ∷ ws) = line_text W (pos w ∷ []) ++ weights_text ws

unfoldable pub sheet_text : Sheet → List ℕ
sheet_text sheet =
    let job = sheet.job in
    line_text LAW (pos job.law.order ∷ pos job.law.divisor ∷ [])
    ++ (terms_text job.law 0 job.law.order
    ++ (line_text START (pos job.start.low ∷ pos job.start.high ∷ [])
    ++ (line_text LAST (pos job.last ∷ [])
    ++ (line_text ZERO (pos job.zero ∷ [])
    ++ (line_text SEVERITY (pos (length sheet.weights) ∷ [])
    ++ weights_text sheet.weights)))))
