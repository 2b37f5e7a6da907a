-- "Cases on each limit", P1 to P12, as rows of one table, and more of the paper's calls. The numbers are the paper's, with the bounds of
-- P2, P4 and P6 as Wish 4 has them, P9 and P10 asked of the two calls of Wish 5, the line ZERO of Wish 7 in every sheet, and the marks of
-- Wish 10; what is not printed follows from the rules, and calculator/check_paper_cases.py works every row out apart from these definitions.
use Rattle.std.specs.Prelude.{◌≡◌, Bool, ◌&&◌, ℕ, ◌+◌, ◌-◌, ◌*◌, eqb, ℤ, pos, neg_ℤ, length, replicate}
use mathlib.Core.List.{List, [], ◌∷◌, ◌++◌, map, Memᴰ}
use Prim.Native.String.{String}
use Rattle.algebra.specs.Table.{same_integer, same_list}
use Rattle.model.specs.declared.Law.{Law}
use Rattle.model.specs.declared.Start.{Start}
use Rattle.model.specs.declared.Job.{Job}
use Rattle.model.specs.Job.{law_of, start_of, job_of}
use Rattle.model.specs.Answer.{Answer, accepted, refused}
use Rattle.start.specs.Call.{Started, start_of_mean, start_of_trials}
use Rattle.published.specs.Call.{Made, law_of_panjer_willmot, law_of_hesselager}
use Rattle.compound.specs.Lent.{Lent, lent_rows}
use Rattle.compound.specs.Call.{curve_answer, curve_lent}
use Rattle.quantile.specs.Call.{Found, sure_query, possible_query}
use Rattle.layer.specs.declared.LayerList.{LayerList}
use Rattle.layer.specs.Call.{LayerCosts, layer_list, layer_costs}
use Rattle.text.specs.Bytes.{ascii}
use Rattle.grammar.specs.Reading.{reading}
use Rattle.sheet.specs.Call.{Told, told, row_on_return}
use Rattle.fault.specs.declared.Part.{Part}
use Rattle.fault.specs.Call.{faulty_word, part_of, faulty_part}
use Rattle.report.specs.Report.{report_text}

-- a call of the tool and what the paper says of it
pub data Case : Type 0 where
  -- the job and its weights, the lent rows at entry, the answer, the lent rows on return
  curve : Job → List ℕ → Lent → Answer → Lent → Case
  -- the sheet's bytes and the lent row at entry, what the reader tells, the row on return, the faulty word and where it stands
  reader : List ℕ → List ℕ → Told → List ℕ → List ℕ → Part → Case
  -- the low row, the high row and the level, what sure tells and what possible tells
  level : List ℤ → List ℤ → ℤ → Found → Found → Case
  -- the low row, the high row, the list of layers, the two answer rows at entry, and the answer with these rows on return
  layers : List ℤ → List ℤ → LayerList → List ℤ → List ℤ → LayerCosts → Case
  -- the mean's upper and lower number, and the answer with its start
  mean : ℕ → ℕ → Started → Case
  -- the chance's upper and lower number and the number of trials, likewise
  trials : ℕ → ℕ → ℕ → Started → Case
  -- the numbers of 000's line, left and then right, and the answer with its law
  panjer_willmot : ℤ → ℤ → ℤ → ℤ → Made → Case
  -- those of 001's line, likewise
  hesselager : ℤ → ℤ → ℤ → ℤ → Made → Case
  -- the sheet's bytes, and the text that the program writes
  program : List ℕ → String → Case

-- what a row claims
abbrev pub Holds : Case → Type 0
Holds (curve job weights lent answer after) = (curve_answer job weights lent ≡ answer) × (curve_lent job weights lent ≡ after)
Holds (reader s row says after word part) =
    (told (reading (length row) s) ≡ says) × (row_on_return (reading (length row) s) row ≡ after)
    × (faulty_word (length row) s ≡ word) × (faulty_part (length row) s ≡ part)
Holds (level low high L sure possible) = (sure_query low high L ≡ sure) × (possible_query low high L ≡ possible)
Holds (layers low high list answer_low answer_high says) = layer_costs low high list answer_low answer_high ≡ says
Holds (mean r s answer) = start_of_mean r s ≡ answer
Holds (trials r s N answer) = start_of_trials r s N ≡ answer
Holds (panjer_willmot α₀ α₁ β₀ β₁ answer) = law_of_panjer_willmot α₀ α₁ β₀ β₁ ≡ answer
Holds (hesselager b₀ b₁ a₀ a₁ answer) = law_of_hesselager b₀ b₁ a₀ a₁ ≡ answer
Holds (program s text) = report_text s ≡ ascii text

-- ---- jobs
-- terms that are not written are zero
abbrev padded : List ℤ → List ℤ
padded terms = terms ++ replicate (4 - length terms) (pos 0)

-- k, D, A_1, .. and B_1, ..
abbrev law : (k D : ℕ) (A B : List ℤ) → Law
law k D A B = law_of k D (padded A) (padded B)

-- ---- lent rows
-- what every place holds at entry, so that it shows which ones the call writes
abbrev sevens : ℕ → List ℤ
sevens n = replicate n (pos 7)

-- the rows have two places more than the call asks for, the work row one; its "12 times (X+1)" is written here apart from the definition
abbrev lent_for : (X : ℕ) → Lent
lent_for X = lent_rows (sevens (X + 3)) (sevens (X + 3)) (sevens (X + 3)) (sevens (X + 3)) (sevens (12 * (X + 1) + 1))

-- on return, by X: "These write nothing."
abbrev untouched : (X : ℕ) → Lent
untouched X = lent_for X

-- the rows hold numbers in front of their last two places, and the work row 0 in front of its last; `marks` is what the fourth holds
abbrev holding : (marks : List ℕ) (low high bound : List ℤ) (X : ℕ) → Lent
holding marks low high bound X = lent_rows (low ++ sevens 2) (high ++ sevens 2) (bound ++ sevens 2) (map pos marks ++ sevens 2)
    (replicate (12 * (X + 1)) (pos 0) ++ sevens 1)

-- "the first X+1 places of the three rows are 0", and of the fourth, "which 8, 9 and 10 treat like the other three"
abbrev cleared : (X : ℕ) → Lent
cleared X = holding (replicate (X + 1) 0) (replicate (X + 1) (pos 0)) (replicate (X + 1) (pos 0)) (replicate (X + 1) (pos 0)) X

-- ---- sheets
-- the paper's sheet, that of P1, with two of its lines left open; "P1's sheet gains `ZERO 0`"
abbrev sheet : (line2 line7 : String) → List ℕ
sheet line2 line7 =
    ascii "LAW 1 1\n" ++ ascii line2 ++ ascii "\nSTART 367879441 367879442\nLAST 3\nZERO 0\nSEVERITY 2\n" ++ ascii line7 ++ ascii "\nW 1\n"

-- the lent row has one place more than the sheet has weights
abbrev places : List ℕ
places = 7 ∷ 7 ∷ 7 ∷ []

-- "An acceptance writes the first m places and no others.", and hands back an empty part
abbrev acceptance : (s : List ℕ) (job : Job) (weights after : List ℕ) → Case
acceptance s job weights after =
    reader s places (record { answer = accepted; job = job; count = length weights; weights = weights }) after [] (part_of 0 0)

-- "A refusal writes nothing.", and its other numbers are 0; the word is so many bytes of the sheet, from byte `start` on
abbrev refusal : (s : List ℕ) (number line : ℕ) (word : String) (start count : ℕ) → Case
refusal s number line word start count =
    reader s places (record { answer = refused number line; job = job_of (law 0 0 [] []) (start_of 0 0) 0 0; count = 0; weights = [] }) places
    (ascii word) (part_of start count)

-- ---- level queries
abbrev found : (total : ℕ) → Found
found total = record { answer = accepted; total = total }

-- a refusal's total is 0
abbrev not_found : (number place : ℕ) → Found
not_found number place = record { answer = refused number place; total = 0 }

-- "Checks 31 to 33 stay in both"
abbrev both_refuse : (low high : List ℤ) (L : ℤ) (number place : ℕ) → Case
both_refuse low high L number place = level low high L (not_found number place) (not_found number place)

-- ---- layer costs
-- as many layers as the lists have members; behind them the arrays have a layer that would be refused, from 9 to 2
abbrev between : (attachments limits : List ℕ) → LayerList
between attachments limits = layer_list (length attachments) (attachments ++ replicate (64 - length attachments) 9)
    (limits ++ replicate (64 - length limits) 2)

-- the costs in front of what the answer rows held behind them
abbrev priced : (lows highs rest_low rest_high : List ℤ) → LayerCosts
priced lows highs rest_low rest_high = record { answer = accepted; low = lows ++ rest_low; high = highs ++ rest_high }

-- a refusal writes nothing
abbrev not_priced : (low high : List ℤ) (list : LayerList) (places_low places_high number place : ℕ) → Case
not_priced low high list places_low places_high number place =
    layers low high list (sevens places_low) (sevens places_high)
    (record { answer = refused number place; low = sevens places_low; high = sevens places_high })

-- ---- starts
abbrev started : (low high : ℕ) → Started
started low high = record { answer = accepted; ends = record { low = pos low; high = pos high } }

-- a refusal's numbers are 0
abbrev not_started : (number : ℕ) → Started
not_started number = record { answer = refused number 0; ends = record { low = pos 0; high = pos 0 } }

-- ---- laws from a publication
abbrev made : (law : Law) → Made
made law = record { answer = accepted; law = law }

-- a refusal's numbers are 0
abbrev not_made : (number : ℕ) → Made
not_made number = record { answer = refused number 0; law = law 0 0 [] [] }

-- ---- the table of cases
abbrev call : (job : Job) (weights : List ℕ) (answer : Answer) (after : ℕ → Lent) → Case
call job weights answer after = curve job weights (lent_for job.last) answer (after job.last)

-- a job whose table has a weight for severity 0
abbrev zeros : (law : Law) (start : Start) (X w₀ : ℕ) (weights : List ℕ) (answer : Answer) (after : ℕ → Lent) → Case
zeros law start X w₀ = call (job_of law start X w₀)

-- and one without
abbrev row : (law : Law) (start : Start) (X : ℕ) (weights : List ℕ) (answer : Answer) (after : ℕ → Lent) → Case
row law start X = zeros law start X 0

abbrev job_p1 : Job
job_p1 = job_of (law 1 1 (pos 0 ∷ []) (pos 1 ∷ [])) (start_of 367879441 367879442) 3 0

-- P1, as the program writes it
abbrev low_p1 : List ℤ
low_p1 = map pos (367879441 ∷ 183939720 ∷ 229924650 ∷ 99634015 ∷ [])

abbrev high_p1 : List ℤ
high_p1 = map pos (367879442 ∷ 183939721 ∷ 229924652 ∷ 99634016 ∷ [])

abbrev bound_p1 : List ℤ
bound_p1 = map pos (1 ∷ 2 ∷ 2 ∷ 2 ∷ [])

abbrev marks_p1 : List ℕ
marks_p1 = 1 ∷ 0 ∷ 0 ∷ 0 ∷ []

abbrev rows_p1 : (X : ℕ) → Lent
rows_p1 = holding marks_p1 low_p1 high_p1 bound_p1

-- P1's job with rows of so many places
abbrev places_p1 : (low high bound mark work : ℕ) → Lent
places_p1 low high bound mark work = lent_rows (sevens low) (sevens high) (sevens bound) (sevens mark) (sevens work)

-- which are too few
abbrev too_few_p1 : (low high bound mark work : ℕ) → Case
too_few_p1 low high bound mark work =
    curve job_p1 (1 ∷ 1 ∷ []) (places_p1 low high bound mark work) (refused 8 0) (places_p1 low high bound mark work)

-- P2: "k 1, D 1, A -1, B 3, start 250000000 twice"
abbrev law_p2 : Law
law_p2 = law 1 1 (neg_ℤ (pos 1) ∷ []) (pos 3 ∷ [])

abbrev start_p2 : Start
start_p2 = start_of 250000000 250000000

-- "Lows and highs 250000000, 500000000, 250000000, 0, 0"
abbrev rows_p2 : (bounds : List ℕ) (X : ℕ) → Lent
rows_p2 bounds = holding (1 ∷ 1 ∷ 1 ∷ 1 ∷ 1 ∷ [])
    (map pos (250000000 ∷ 500000000 ∷ 250000000 ∷ 0 ∷ 0 ∷ []))
    (map pos (250000000 ∷ 500000000 ∷ 250000000 ∷ 0 ∷ 0 ∷ []))
    (map pos bounds)

-- P4: "A 0 0, B 0 1, start 400000001 twice"
abbrev law_p4 : Law
law_p4 = law 2 1 (pos 0 ∷ pos 0 ∷ []) (pos 0 ∷ pos 1 ∷ [])

abbrev start_p4 : Start
start_p4 = start_of 400000001 400000001

-- "At 1: 0, 0 .. At 2: 200000000, 200000001"
abbrev rows_p4 : (bounds : List ℕ) (X : ℕ) → Lent
rows_p4 bounds = holding (1 ∷ 1 ∷ 0 ∷ []) (map pos (400000001 ∷ 0 ∷ 200000000 ∷ [])) (map pos (400000001 ∷ 0 ∷ 200000001 ∷ []))
    (map pos bounds)

-- P6: "D 1, A 0, B 1, start 0 and U"
abbrev law_p6 : Law
law_p6 = law 1 1 (pos 0 ∷ []) (pos 1 ∷ [])

abbrev start_p6 : Start
start_p6 = start_of 0 1000000000

-- D 1, A 1, B 0, with which D W - A w(0) is w(1) + .. + w(m)
abbrev law_one : Law
law_one = law 1 1 (pos 1 ∷ []) (pos 0 ∷ [])

abbrev start_one : Start
start_one = start_of 400000001 400000002

abbrev rows_one : (X : ℕ) → Lent
rows_one = holding (1 ∷ 1 ∷ 1 ∷ []) (map pos (400000001 ∷ 400000001 ∷ 400000001 ∷ [])) (map pos (400000002 ∷ 400000002 ∷ 400000002 ∷ []))
    (map pos (1 ∷ 1 ∷ 2 ∷ []))

abbrev pub cases : List Case
cases =
    -- P1: "the job above", that of the sheet
    call job_p1 (1 ∷ 1 ∷ []) accepted rows_p1
    -- P2: "X 4"; "P2's bounds become 0, 0, 1, 1, 2"
    ∷ row law_p2 start_p2 4 (1 ∷ []) accepted (rows_p2 (0 ∷ 0 ∷ 1 ∷ 1 ∷ 2 ∷ []))
    -- P3: "At 1: low -1, high 0, bound 2."
    ∷ row (law 1 2 (neg_ℤ (pos 1) ∷ []) (pos 0 ∷ [])) (start_of 1 2) 1 (1 ∷ []) accepted
    (holding (1 ∷ 0 ∷ []) (pos 1 ∷ neg_ℤ (pos 1) ∷ []) (pos 2 ∷ pos 0 ∷ []) (pos 1 ∷ pos 2 ∷ []))
    -- "P3 with start 1 twice": "The rule gives low -1, high 0, bound 1."
    ∷ row (law 1 2 (neg_ℤ (pos 1) ∷ []) (pos 0 ∷ [])) (start_of 1 1) 1 (1 ∷ []) accepted
    (holding (1 ∷ 0 ∷ []) (pos 1 ∷ neg_ℤ (pos 1) ∷ []) (pos 1 ∷ pos 0 ∷ []) (pos 0 ∷ pos 1 ∷ []))
    -- P4: "X 2"; "P4's become 0, 0, 1"
    ∷ row law_p4 start_p4 2 (1 ∷ []) accepted (rows_p4 (0 ∷ 0 ∷ 1 ∷ []))
    -- the same law with D 2, so that row 0's divisor is never 1 and row 1's is; then with W 2, so that neither is
    ∷ row (law 2 2 (pos 0 ∷ pos 0 ∷ []) (pos 0 ∷ pos 2 ∷ [])) start_p4 2 (1 ∷ []) accepted (rows_p4 (0 ∷ 1 ∷ 1 ∷ []))
    ∷ row law_p4 start_p4 2 (2 ∷ []) accepted (rows_p4 (0 ∷ 1 ∷ 2 ∷ []))
    -- the same at order 4, where what row 3 has at total 3 came through rows 1 and 2
    ∷ row (law 4 2 [] (map pos (0 ∷ 0 ∷ 0 ∷ 4 ∷ []))) start_p4 4 (1 ∷ []) accepted
    (holding (1 ∷ 1 ∷ 1 ∷ 1 ∷ 0 ∷ []) (map pos (400000001 ∷ 0 ∷ 0 ∷ 0 ∷ 200000000 ∷ [])) (map pos (400000001 ∷ 0 ∷ 0 ∷ 0 ∷ 200000001 ∷ []))
    (map pos (0 ∷ 1 ∷ 1 ∷ 1 ∷ 1 ∷ [])))
    -- P5: "refusal 9 at 1"
    ∷ row (law 1 1 (pos 0 ∷ []) (pos 3 ∷ [])) (start_of 1000000000 1000000000) 1 (1 ∷ []) (refused 9 1) cleared
    -- "With B 2: accepted, 2U."
    ∷ row (law 1 1 (pos 0 ∷ []) (pos 2 ∷ [])) (start_of 1000000000 1000000000) 1 (1 ∷ []) accepted
    (holding (1 ∷ 1 ∷ []) (map pos (1000000000 ∷ 2000000000 ∷ [])) (map pos (1000000000 ∷ 2000000000 ∷ [])) (map pos (0 ∷ 0 ∷ [])))
    -- P6: "X 1"; "P6 is now accepted with bound U"
    ∷ row law_p6 start_p6 1 (1 ∷ []) accepted
    (holding (1 ∷ 1 ∷ []) (map pos (0 ∷ 0 ∷ [])) (map pos (1000000000 ∷ 1000000000 ∷ [])) (map pos (1000000000 ∷ 1000000000 ∷ [])))
    -- "with weights 1 and 1 and B 2 it gives 10 at 1"
    ∷ row (law 1 1 (pos 0 ∷ []) (pos 2 ∷ [])) start_p6 1 (1 ∷ 1 ∷ []) (refused 10 1) cleared
    -- "With X 0: accepted."
    ∷ row law_p6 start_p6 0 (1 ∷ []) accepted
    (holding (1 ∷ []) (map pos (0 ∷ [])) (map pos (1000000000 ∷ [])) (map pos (1000000000 ∷ [])))
    -- P7: "P2 with w(1) 1,000 is accepted; with 1,001 it gives 6."; the divisor is above 1 at total 1 too, although D is 1
    ∷ row law_p2 start_p2 4 (1000 ∷ []) accepted (rows_p2 (0 ∷ 1 ∷ 2 ∷ 1 ∷ 2 ∷ []))
    ∷ row law_p2 start_p2 4 (1001 ∷ []) (refused 6 0) untouched
    -- P8: "P2 with X 501 gives 7."
    ∷ row law_p2 start_p2 501 (1 ∷ []) (refused 7 0) untouched
    -- "k 5 gives 1 at the curve"
    ∷ row (law 5 1 (neg_ℤ (pos 1) ∷ []) (pos 3 ∷ [])) start_p2 4 (1 ∷ []) (refused 1 0) untouched
    -- one claim in three closes at nothing: P1's law, of mean 1, has the amounts of mean 2/3
    ∷ zeros job_p1.law (start_of 600000000 600000000) 2 1 (1 ∷ 1 ∷ []) accepted
    (holding (1 ∷ 1 ∷ 0 ∷ []) (map pos (600000000 ∷ 200000000 ∷ 233333333 ∷ [])) (map pos (600000000 ∷ 200000000 ∷ 233333334 ∷ []))
    (map pos (0 ∷ 1 ∷ 2 ∷ [])))
    -- one in two: A below 0, P2's law of 2 trials of chance 1/2 has the amounts of chance 1/4
    ∷ zeros law_p2 (start_of 562500000 562500000) 3 1 (1 ∷ []) accepted
    (holding (1 ∷ 1 ∷ 1 ∷ 1 ∷ []) (map pos (562500000 ∷ 375000000 ∷ 62500000 ∷ 0 ∷ [])) (map pos (562500000 ∷ 375000000 ∷ 62500000 ∷ 0 ∷ []))
    (map pos (0 ∷ 1 ∷ 2 ∷ 1 ∷ [])))
    -- A above 0: the negative binomial law of shape 2 with a 1/2 has the amounts of a 1/3
    ∷ zeros (law 1 2 (pos 1 ∷ []) (pos 1 ∷ [])) (start_of 444444444 444444445) 2 1 (1 ∷ []) accepted
    (holding (1 ∷ 0 ∷ 0 ∷ []) (map pos (444444444 ∷ 296296296 ∷ 148148148 ∷ [])) (map pos (444444445 ∷ 296296297 ∷ 148148149 ∷ []))
    (map pos (1 ∷ 2 ∷ 2 ∷ [])))
    -- D W - A w(0) is 1, so that at total 1 nothing is rounded
    ∷ zeros law_one start_one 2 5 (1 ∷ []) accepted rows_one
    -- "counted in W": 999 and 1 are accepted, 1,000 and 1 are not, nor is any larger number; 6 comes before 11
    ∷ zeros law_p6 (start_of 1000 1000) 1 999 (1 ∷ []) accepted
    (holding (1 ∷ 1 ∷ []) (map pos (1000 ∷ 1 ∷ [])) (map pos (1000 ∷ 1 ∷ [])) (map pos (0 ∷ 1 ∷ [])))
    ∷ zeros law_p6 (start_of 1000 1000) 1 1000 (1 ∷ []) (refused 6 0) untouched
    ∷ zeros law_p6 (start_of 1000 1000) 1 18446744073709551615 (1 ∷ []) (refused 6 0) untouched
    ∷ zeros law_p4 start_p4 2 1000 (1 ∷ []) (refused 6 0) untouched
    -- and a table without any weight is refused by 6, before 13
    ∷ zeros law_p6 start_p6 1 0 (0 ∷ 0 ∷ []) (refused 6 0) untouched
    -- "with 11, after 6, a nonzero weight at 0 when k is above 1", before 12
    ∷ zeros law_p4 start_p4 2 1 (1 ∷ []) (refused 11 0) untouched
    ∷ zeros (law 2 1 (pos 3 ∷ pos 0 ∷ []) (pos 0 ∷ pos 1 ∷ [])) start_p4 2 1 (1 ∷ []) (refused 11 0) untouched
    -- "then 12 a D times W - A times w(0) of zero or less": 0, -1, and 1, which is accepted; before 13
    ∷ zeros (law 1 1 (pos 2 ∷ []) (pos 0 ∷ [])) start_p4 1 1 (1 ∷ []) (refused 12 0) untouched
    ∷ zeros (law 1 1 (pos 3 ∷ []) (pos 0 ∷ [])) start_p4 1 1 (1 ∷ []) (refused 12 0) untouched
    ∷ zeros (law 1 1 (pos 2 ∷ []) (pos 0 ∷ [])) (start_of 5 6) 1 1 (1 ∷ 1 ∷ []) accepted
    (holding (1 ∷ 1 ∷ []) (map pos (5 ∷ 10 ∷ [])) (map pos (6 ∷ 12 ∷ [])) (map pos (1 ∷ 2 ∷ [])))
    ∷ zeros law_one start_one 1 1 (0 ∷ []) (refused 12 0) untouched
    -- "then 13 a table whose other weights are all 0", before 7
    ∷ zeros law_p6 start_p6 501 1 (0 ∷ 0 ∷ []) (refused 13 0) untouched
    -- "8, a row below X+1 places", the fourth among them, or the work row below "12 times (X+1) places": just enough, and one less of each
    ∷ curve job_p1 (1 ∷ 1 ∷ []) (places_p1 4 4 4 4 48) accepted (lent_rows low_p1 high_p1 bound_p1 (map pos marks_p1) (replicate 48 (pos 0)))
    ∷ too_few_p1 3 4 4 4 48
    ∷ too_few_p1 4 3 4 4 48
    ∷ too_few_p1 4 4 3 4 48
    ∷ too_few_p1 4 4 4 3 48
    ∷ too_few_p1 4 4 4 4 47
    -- exact throughout: three tosses, each end for its own start
    ∷ row (law 1 1 (neg_ℤ (pos 1) ∷ []) (pos 4 ∷ [])) (start_of 0 125000000) 4 (1 ∷ []) accepted
    (holding (1 ∷ 1 ∷ 1 ∷ 1 ∷ 1 ∷ []) (map pos (0 ∷ 0 ∷ 0 ∷ 0 ∷ 0 ∷ []))
    (map pos (125000000 ∷ 375000000 ∷ 375000000 ∷ 125000000 ∷ 0 ∷ []))
    (map pos (125000000 ∷ 375000000 ∷ 375000001 ∷ 125000002 ∷ 1 ∷ [])))
    -- the tenth half of U leaves a remainder
    ∷ row (law 1 2 (pos 1 ∷ []) (pos 0 ∷ [])) (start_of 1000000000 1000000000) 10 (1 ∷ []) accepted
    (holding (replicate 10 1 ++ (0 ∷ []))
    (map pos (1000000000 ∷ 500000000 ∷ 250000000 ∷ 125000000 ∷ 62500000 ∷ 31250000 ∷ 15625000 ∷ 7812500 ∷ 3906250 ∷ 1953125 ∷ 976562 ∷ []))
    (map pos (1000000000 ∷ 500000000 ∷ 250000000 ∷ 125000000 ∷ 62500000 ∷ 31250000 ∷ 15625000 ∷ 7812500 ∷ 3906250 ∷ 1953125 ∷ 976563 ∷ []))
    (map pos (0 ∷ 1 ∷ replicate 9 2)))
    -- "neither sum's division left a remainder": that of the high sum alone does, and that of the low sum alone
    ∷ row (law 1 2 (pos 1 ∷ []) (pos 0 ∷ [])) (start_of 2 3) 1 (1 ∷ []) accepted
    (holding (1 ∷ 0 ∷ []) (map pos (2 ∷ 1 ∷ [])) (map pos (3 ∷ 2 ∷ [])) (map pos (1 ∷ 2 ∷ [])))
    ∷ row (law 1 2 (pos 1 ∷ []) (pos 0 ∷ [])) (start_of 3 4) 1 (1 ∷ []) accepted
    (holding (1 ∷ 0 ∷ []) (map pos (3 ∷ 1 ∷ [])) (map pos (4 ∷ 2 ∷ [])) (map pos (1 ∷ 2 ∷ [])))
    -- "under a negative factor, has equal ends": here it has not, so that total 2 has no mark, though it is right; and here it has
    ∷ row (law 1 1 (neg_ℤ (pos 1) ∷ []) (pos 0 ∷ [])) (start_of 4 6) 2 (1 ∷ []) accepted
    (holding (1 ∷ 0 ∷ 0 ∷ []) (pos 4 ∷ neg_ℤ (pos 6) ∷ pos 4 ∷ []) (pos 6 ∷ neg_ℤ (pos 4) ∷ pos 6 ∷ []) (map pos (2 ∷ 2 ∷ 3 ∷ [])))
    ∷ row (law 1 1 (neg_ℤ (pos 1) ∷ []) (pos 0 ∷ [])) (start_of 5 5) 2 (1 ∷ []) accepted
    (holding (1 ∷ 1 ∷ 1 ∷ []) (pos 5 ∷ neg_ℤ (pos 5) ∷ pos 5 ∷ []) (pos 5 ∷ neg_ℤ (pos 5) ∷ pos 5 ∷ []) (map pos (0 ∷ 0 ∷ 1 ∷ [])))
    -- the same where at total 2 severity 1 has a negative factor and severity 2 has none
    ∷ row (law 1 1 (neg_ℤ (pos 2) ∷ []) (pos 3 ∷ [])) (start_of 16 24) 2 (1 ∷ 1 ∷ []) accepted
    (holding (1 ∷ 1 ∷ 0 ∷ []) (map pos (16 ∷ 8 ∷ 5 ∷ [])) (map pos (24 ∷ 12 ∷ 10 ∷ [])) (map pos (8 ∷ 5 ∷ 7 ∷ [])))
    ∷ row (law 1 1 (neg_ℤ (pos 2) ∷ []) (pos 3 ∷ [])) (start_of 16 16) 2 (1 ∷ 1 ∷ []) accepted
    (holding (1 ∷ 1 ∷ 1 ∷ []) (map pos (16 ∷ 8 ∷ 6 ∷ [])) (map pos (16 ∷ 8 ∷ 6 ∷ [])) (map pos (0 ∷ 1 ∷ 2 ∷ [])))
    -- "every entry used with a nonzero factor and weight": total 2 has factor 0 on total 1, and total 3 weight 0 on total 2
    ∷ row (law 1 2 (neg_ℤ (pos 1) ∷ []) (pos 2 ∷ [])) (start_of 1 1) 2 (1 ∷ []) accepted
    (holding (1 ∷ 0 ∷ 1 ∷ []) (map pos (1 ∷ 0 ∷ 0 ∷ [])) (map pos (1 ∷ 1 ∷ 0 ∷ [])) (map pos (0 ∷ 1 ∷ 1 ∷ [])))
    ∷ row (law 1 3 (pos 0 ∷ []) (pos 1 ∷ [])) (start_of 1 1) 3 (0 ∷ 1 ∷ []) accepted
    (holding (1 ∷ 1 ∷ 0 ∷ 1 ∷ []) (map pos (1 ∷ 0 ∷ 0 ∷ 0 ∷ [])) (map pos (1 ∷ 0 ∷ 1 ∷ 0 ∷ [])) (map pos (0 ∷ 1 ∷ 1 ∷ 2 ∷ [])))
    -- an entry of row 1 that is not exact: total 2 uses it, and nothing is left over; then it is exact; then its factor is 0
    ∷ row (law 2 1 [] (pos 0 ∷ pos 4 ∷ [])) (start_of 1 1) 2 (1 ∷ 1 ∷ []) accepted
    (holding (1 ∷ 1 ∷ 0 ∷ []) (map pos (1 ∷ 0 ∷ 0 ∷ [])) (map pos (1 ∷ 0 ∷ 1 ∷ [])) (map pos (0 ∷ 1 ∷ 2 ∷ [])))
    ∷ row (law 2 1 [] (pos 0 ∷ pos 4 ∷ [])) (start_of 2 2) 2 (1 ∷ 1 ∷ []) accepted
    (holding (1 ∷ 1 ∷ 1 ∷ []) (map pos (2 ∷ 0 ∷ 1 ∷ [])) (map pos (2 ∷ 0 ∷ 1 ∷ [])) (map pos (0 ∷ 1 ∷ 2 ∷ [])))
    ∷ row (law 2 1 [] []) (start_of 1 1) 2 (1 ∷ 1 ∷ []) accepted
    (holding (1 ∷ 1 ∷ 1 ∷ []) (map pos (1 ∷ 0 ∷ 0 ∷ [])) (map pos (1 ∷ 0 ∷ 0 ∷ [])) (map pos (0 ∷ 1 ∷ 1 ∷ [])))
    -- an entry of row 2, at total 2, by which total 3 has no mark
    ∷ row (law 3 1 [] (map pos (0 ∷ 0 ∷ 6 ∷ []))) (start_of 2 2) 3 (1 ∷ 1 ∷ []) accepted
    (holding (1 ∷ 1 ∷ 1 ∷ 0 ∷ []) (map pos (2 ∷ 0 ∷ 0 ∷ 0 ∷ [])) (map pos (2 ∷ 0 ∷ 0 ∷ 1 ∷ [])) (map pos (0 ∷ 1 ∷ 3 ∷ 5 ∷ [])))
    -- P1's sheet holds P1's job
    ∷ acceptance (sheet "TERM 0 1" "W 1") job_p1 (1 ∷ 1 ∷ []) (1 ∷ 1 ∷ 7 ∷ [])
    -- and the program writes P1's rows
    ∷ program (sheet "TERM 0 1" "W 1")
    "TOTAL LOW HIGH BOUND EXACT\n0 367879441 367879442 1 Y\n1 183939720 183939721 2 N\n2 229924650 229924652 2 N\n3 99634015 99634016 2 N\n"
    -- "A line `ZERO w` stands before `SEVERITY` in every sheet": a job with a weight at 0, and a sheet without the line
    ∷ acceptance (ascii "LAW 1 1\nTERM 1 0\nSTART 400000001 400000002\nLAST 2\nZERO 5\nSEVERITY 1\nW 1\n") (job_of law_one start_one 2 5)
    (1 ∷ []) (1 ∷ 7 ∷ 7 ∷ [])
    ∷ program (ascii "LAW 1 1\nTERM 1 0\nSTART 400000001 400000002\nLAST 2\nZERO 5\nSEVERITY 1\nW 1\n")
    "TOTAL LOW HIGH BOUND EXACT\n0 400000001 400000002 1 Y\n1 400000001 400000002 1 Y\n2 400000001 400000002 2 Y\n"
    ∷ program (ascii "LAW 1 1\nTERM 1 0\nSTART 400000001 400000002\nLAST 2\nSEVERITY 1\nW 1\n") "REFUSED 23 5\n"
    ∷ refusal (ascii "LAW 1 1\nTERM 1 0\nSTART 1 1\nLAST 2\nZERO -1\nSEVERITY 1\nW 1\n") 24 5 "-1" 39 2
    -- P3 and P6 as sheets: a low below zero, a job that the curve takes, and one that it refuses
    ∷ program (ascii "LAW 1 2\nTERM -1 0\nSTART 1 2\nLAST 1\nZERO 0\nSEVERITY 1\nW 1\n") "TOTAL LOW HIGH BOUND EXACT\n0 1 2 1 Y\n1 -1 0 2 N\n"
    ∷ program (ascii "LAW 1 1\nTERM 0 1\nSTART 0 1000000000\nLAST 1\nZERO 0\nSEVERITY 1\nW 1\n")
    "TOTAL LOW HIGH BOUND EXACT\n0 0 1000000000 1000000000 Y\n1 0 1000000000 1000000000 Y\n"
    ∷ program (ascii "LAW 1 1\nTERM 0 2\nSTART 0 1000000000\nLAST 1\nZERO 0\nSEVERITY 2\nW 1\nW 1\n") "REFUSED 10 1\n"
    -- P11: "the sheet above with `W 10n5` as its line 6 gives 24 at line 6 with the word `10n5`"; "P11's fault moves to line 7"
    ∷ refusal (sheet "TERM 0 1" "W 10n5") 24 7 "10n5" 70 4
    ∷ program (sheet "TERM 0 1" "W 10n5") "REFUSED 24 7\n"
    -- P12: "with `TERM -0 1` as its line 2 it gives 24 at line 2 with the word `-0`"
    ∷ refusal (sheet "TERM -0 1" "W 1") 24 2 "-0" 13 2
    -- a word whose bytes stand earlier too, and "`START 1 ` plus a line end gives 24, empty word", whose bytes stand everywhere
    ∷ refusal (ascii "LAW LAW 1\n") 24 1 "LAW" 4 3
    ∷ refusal (sheet "TERM 0 1" "W W") 24 7 "W" 70 1
    ∷ refusal (ascii "LAW 1 1\nTERM 0 1\nSTART 1 \n") 24 3 "" 25 0
    -- "`W  1` gives 23"
    ∷ refusal (sheet "TERM 0 1" "W  1") 23 7 "" 0 0
    -- "bytes after the last `W` line give 26"
    ∷ refusal (sheet "TERM 0 1" "W 1\nW 1") 26 9 "" 0 0
    -- P9: "rows of P1, L 500000000: sure 1, possible 1"
    ∷ level low_p1 high_p1 (pos 500000000) (found 1) (found 1)
    -- P10: "L 900000000: 34", and the highs, which have 881377831 together, do not reach it either
    ∷ level low_p1 high_p1 (pos 900000000) (not_found 34 0) (not_found 35 0)
    -- at total 1 the lows have 551819161 together, the highs 551819163
    ∷ level low_p1 high_p1 (pos 551819163) (found 2) (found 1)
    -- the lows fall short, by 5 units at the last total, and the highs do not; with one unit more the highs do too
    ∷ level low_p1 high_p1 (pos 881377831) (not_found 34 0) (found 3)
    ∷ level low_p1 high_p1 (pos 881377832) (not_found 34 0) (not_found 35 0)
    -- "rows empty, unequal in length or longer than 501"; 31 comes before 32
    ∷ both_refuse [] [] (pos 0) 31 0
    ∷ both_refuse low_p1 [] (pos 500000000) 31 0
    ∷ both_refuse (replicate 502 (pos 1)) (replicate 502 (pos 1)) (pos 1) 31 0
    -- "L not 1 to U"; 501 places are not too many, and 32 comes before 33
    ∷ both_refuse (replicate 501 (pos 1)) (replicate 501 (pos 1)) (pos 0) 32 0
    ∷ both_refuse high_p1 low_p1 (pos 0) 32 0
    ∷ both_refuse low_p1 high_p1 (pos 1000000001) 32 0
    -- "at the smallest place x, an entry outside -2U to 2U or low above high"; 33 comes before 34 and 35, and 2U itself is no fault
    ∷ both_refuse (pos 0 ∷ neg_ℤ (pos 2000000001) ∷ pos 1 ∷ []) (pos 0 ∷ pos 0 ∷ pos 0 ∷ []) (pos 1) 33 1
    ∷ both_refuse (pos 0 ∷ pos 1 ∷ pos 1 ∷ []) (pos 0 ∷ pos 0 ∷ pos 2000000001 ∷ []) (pos 1) 33 1
    ∷ level (neg_ℤ (pos 2000000000) ∷ pos 2000000000 ∷ []) (pos 2000000000 ∷ pos 2000000000 ∷ []) (pos 1000000000)
    (not_found 34 0) (found 0)
    -- a sum that reaches the level and falls again
    ∷ level (pos 2 ∷ neg_ℤ (pos 5) ∷ []) (pos 2 ∷ neg_ℤ (pos 5) ∷ []) (pos 2) (found 0) (found 0)
    -- layers on the rows of P1: from 0 to 4 the savings are 4, 3, 2 and 1, from 1 to 3 they are 2, 2, 1 and 0, from 3 to 4 they are 1
    ∷ layers low_p1 high_p1 (between (0 ∷ 1 ∷ 3 ∷ []) (4 ∷ 3 ∷ 4 ∷ [])) (sevens 5) (sevens 3)
    (priced (map pos (1417179749 ∷ 666437022 ∷ 118622169 ∷ [])) (map pos (1417179761 ∷ 666437028 ∷ 118622174 ∷ [])) (sevens 2) [])
    -- the largest numbers: from 0 to 501 the savings come to 125751
    ∷ layers (replicate 501 (neg_ℤ (pos 2000000000))) (replicate 501 (pos 2000000000)) (between (0 ∷ []) (501 ∷ [])) (sevens 1) (sevens 2)
    (priced (neg_ℤ (pos 251001000000000) ∷ []) (pos 252003000000000 ∷ []) [] (sevens 1))
    -- 64 layers, and "longer than 64"
    ∷ layers (pos 5 ∷ []) (pos 7 ∷ []) (between (replicate 64 0) (replicate 64 1)) (sevens 64) (sevens 65)
    (priced (replicate 64 (pos 999999993)) (replicate 64 (pos 999999995)) [] (sevens 1))
    ∷ not_priced (pos 5 ∷ []) (pos 7 ∷ []) (layer_list 65 (replicate 64 0) (replicate 64 1)) 65 65 61 0
    -- "31 and 33 come first", before "a list that is empty"
    ∷ not_priced [] [] (between [] []) 1 1 31 0
    ∷ not_priced (pos 0 ∷ pos 1 ∷ []) (pos 0 ∷ pos 0 ∷ []) (between [] []) 1 1 33 1
    ∷ not_priced low_p1 high_p1 (between [] []) 1 1 61 0
    -- "longer than a lent row for the answers", before "a c not below d"
    ∷ not_priced low_p1 high_p1 (between (0 ∷ 2 ∷ []) (2 ∷ 2 ∷ [])) 1 2 61 0
    ∷ not_priced low_p1 high_p1 (between (0 ∷ 2 ∷ []) (2 ∷ 2 ∷ [])) 2 1 61 0
    -- "with 62 a c not below d", before "a d above the rows' length" of the same layer
    ∷ not_priced low_p1 high_p1 (between (0 ∷ 2 ∷ []) (2 ∷ 2 ∷ [])) 2 2 62 1
    ∷ not_priced low_p1 high_p1 (between (6 ∷ []) (5 ∷ [])) 1 1 62 0
    -- "layer by layer from 0": the 63 of layer 0 comes before the 62 of layer 1
    ∷ not_priced low_p1 high_p1 (between (0 ∷ 2 ∷ []) (5 ∷ 2 ∷ [])) 2 2 63 0
    ∷ not_priced low_p1 high_p1 (between (0 ∷ 2 ∷ []) (4 ∷ 5 ∷ [])) 2 2 63 1
    -- P1's law is that of mean 1, and P2's that of two trials of chance 1/2
    ∷ mean 1 1 (started 367879441 367879442)
    ∷ trials 1 2 2 (started 250000000 250000000)
    -- a rest, of which every term is rounded, beside three wholes; two trials of chance 1/3
    ∷ mean 37 10 (started 24723525 24723527)
    ∷ trials 1 3 2 (started 444444444 444444445)
    -- "r from 0 up"; a mean of 20 is not above it
    ∷ mean 0 1 (started 1000000000 1000000000)
    ∷ mean 20000 1000 (started 1 3)
    ∷ trials 0 1 1000 (started 1000000000 1000000000)
    ∷ trials 999 1000 1000 (started 0 1)
    -- "with 41 an s outside 1 to 1,000 or a mean above 20"
    ∷ mean 0 0 (not_started 41)
    ∷ mean 1 1001 (not_started 41)
    ∷ mean 20001 1000 (not_started 41)
    -- "then 42 a chance of 1 or more", also one above 20, "then 43 a number of trials outside 1 to 1,000"
    ∷ trials 1 0 0 (not_started 41)
    ∷ trials 1001 1001 1 (not_started 41)
    ∷ trials 1 1 0 (not_started 42)
    ∷ trials 21 1 1 (not_started 42)
    ∷ trials 0 1 0 (not_started 43)
    ∷ trials 1 2 1001 (not_started 43)
    -- P1's law as 000 writes Poisson laws, and P2's as 000 writes binomial laws, with Np for N - p, and as 001 does
    ∷ panjer_willmot (pos 0) (pos 1) (pos 1) (pos 0) (made job_p1.law)
    ∷ panjer_willmot (pos 0) (pos 1) (pos 2) (neg_ℤ (pos 1)) (made law_p2)
    ∷ hesselager (pos 0) (pos 1) (pos 3) (neg_ℤ (pos 1)) (made law_p2)
    -- "all signs turned if D is negative. Nothing is reduced."
    ∷ panjer_willmot (pos 0) (neg_ℤ (pos 2)) (neg_ℤ (pos 10)) (neg_ℤ (pos 4)) (made (law 1 2 (pos 4 ∷ []) (pos 6 ∷ [])))
    ∷ hesselager (pos 0) (neg_ℤ (pos 2)) (neg_ℤ (pos 6)) (pos 4) (made (law 1 2 (neg_ℤ (pos 4) ∷ []) (pos 6 ∷ [])))
    -- our limits are those of D, A and B, and not of β_0
    ∷ panjer_willmot (pos 0) (pos 1) (pos 2000) (pos 1000) (made (law 1 1 (pos 1000 ∷ []) (pos 1000 ∷ [])))
    ∷ hesselager (pos 0) (neg_ℤ (pos 1000)) (pos 1000) (pos 1000) (made (law 1 1000 (neg_ℤ (pos 1000) ∷ []) (neg_ℤ (pos 1000) ∷ [])))
    -- "with 51 a constant on the left that is not zero, then 52 a zero coefficient of n on the left, then 53 a D or term outside our
    -- limits"
    ∷ panjer_willmot (neg_ℤ (pos 1)) (pos 0) (pos 1001) (pos 0) (not_made 51)
    ∷ hesselager (pos 1) (pos 0) (pos 1001) (pos 0) (not_made 51)
    ∷ panjer_willmot (pos 0) (pos 0) (pos 1001) (pos 0) (not_made 52)
    ∷ hesselager (pos 0) (pos 0) (pos 1001) (pos 0) (not_made 52)
    ∷ panjer_willmot (pos 0) (pos 1001) (pos 2) (pos 0) (not_made 53)
    ∷ panjer_willmot (pos 0) (pos 1) (pos 1001) (pos 0) (not_made 53)
    ∷ panjer_willmot (pos 0) (pos 1) (pos 1001) (pos 1001) (not_made 53)
    ∷ hesselager (pos 0) (neg_ℤ (pos 1001)) (pos 2) (pos 0) (not_made 53)
    ∷ hesselager (pos 0) (pos 1) (neg_ℤ (pos 1001)) (pos 0) (not_made 53)
    ∷ []

-- the one claim
abbrev pub CasesHold : Type 0
CasesHold = (c : Case) → Memᴰ c cases → Holds c

-- ---- the test that the checker computes
abbrev pub numbers : Answer → List ℕ
numbers answer = answer.number ∷ answer.place ∷ []

abbrev pub same_answer : Answer → Answer → Bool
same_answer x y = same_list eqb (numbers x) (numbers y)

abbrev pub same_row : List ℤ → List ℤ → Bool
same_row = same_list same_integer

abbrev pub rows : Lent → List (List ℤ)
rows lent = lent.low ∷ lent.high ∷ lent.bound ∷ lent.mark ∷ lent.work ∷ []

abbrev pub same_lent : Lent → Lent → Bool
same_lent x y = same_list same_row (rows x) (rows y)

-- what the reader tells, as lists
abbrev pub whole_numbers : Told → List ℕ
whole_numbers x =
    x.answer.number ∷ x.answer.place ∷ x.job.law.order ∷ x.job.law.divisor ∷ x.job.start.low ∷ x.job.start.high
    ∷ x.job.last ∷ x.job.zero ∷ x.count ∷ []

abbrev pub terms : Told → List (List ℤ)
terms x = x.job.law.a ∷ x.job.law.b ∷ []

abbrev pub same_bytes : List ℕ → List ℕ → Bool
same_bytes = same_list eqb

abbrev pub same_told : Told → Told → Bool
same_told x y =
    same_bytes (whole_numbers x) (whole_numbers y) && (same_list same_row (terms x) (terms y) && same_bytes x.weights y.weights)

-- a part of the sheet, as a list
abbrev pub part_numbers : Part → List ℕ
part_numbers part = part.start ∷ part.count ∷ []

abbrev pub same_part : Part → Part → Bool
same_part x y = same_bytes (part_numbers x) (part_numbers y)

-- a query's answer, as a list
abbrev pub found_numbers : Found → List ℕ
found_numbers x = x.answer.number ∷ x.answer.place ∷ x.total ∷ []

abbrev pub same_found : Found → Found → Bool
same_found x y = same_bytes (found_numbers x) (found_numbers y)

abbrev pub end_numbers : Started → List ℤ
end_numbers x = x.ends.low ∷ x.ends.high ∷ []

abbrev pub same_started : Started → Started → Bool
same_started x y = same_answer x.answer y.answer && same_row (end_numbers x) (end_numbers y)

-- layer costs: the rows, as lists
abbrev pub cost_rows : LayerCosts → List (List ℤ)
cost_rows x = x.low ∷ x.high ∷ []

abbrev pub same_costs : LayerCosts → LayerCosts → Bool
same_costs x y = same_answer x.answer y.answer && same_list same_row (cost_rows x) (cost_rows y)

-- a law made, as lists
abbrev pub made_numbers : Made → List ℕ
made_numbers x = x.answer.number ∷ x.answer.place ∷ x.law.order ∷ x.law.divisor ∷ []

abbrev pub made_terms : Made → List (List ℤ)
made_terms x = x.law.a ∷ x.law.b ∷ []

abbrev pub same_made : Made → Made → Bool
same_made x y = same_bytes (made_numbers x) (made_numbers y) && same_list same_row (made_terms x) (made_terms y)

abbrev pub test : Case → Bool
test (curve job weights lent answer after) =
    same_answer (curve_answer job weights lent) answer && same_lent (curve_lent job weights lent) after
test (reader s row says after word part) =
    same_told (told (reading (length row) s)) says
    && (same_bytes (row_on_return (reading (length row) s) row) after
    && (same_bytes (faulty_word (length row) s) word && same_part (faulty_part (length row) s) part))
test (level low high L sure possible) = same_found (sure_query low high L) sure && same_found (possible_query low high L) possible
test (layers low high list answer_low answer_high says) = same_costs (layer_costs low high list answer_low answer_high) says
test (mean r s answer) = same_started (start_of_mean r s) answer
test (trials r s N answer) = same_started (start_of_trials r s N) answer
test (panjer_willmot α₀ α₁ β₀ β₁ answer) = same_made (law_of_panjer_willmot α₀ α₁ β₀ β₁) answer
test (hesselager b₀ b₁ a₀ a₁ answer) = same_made (law_of_hesselager b₀ b₁ a₀ a₁) answer
test (program s text) = same_bytes (report_text s) (ascii text)
