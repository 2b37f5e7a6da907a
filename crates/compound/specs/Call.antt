-- The curve call: "Takes the job, three lent rows (low, high, bound) and a work row.", with "a fourth lent row" for the marks.
use Rattle.std.specs.Prelude.{Bool, ◌&&◌, ◌||◌, cond, List, [], ◌∷◌, ◌++◌, ℕ, ◌+◌, ltb, eqb, ℤ, pos, length, get_or, replicate, Result}
use Rattle.algebra.specs.Slice.{listed, written}
use Rattle.algebra.specs.Smallest.{smallest}
use Rattle.model.specs.Weights.{total_weight, all_weight}
use Rattle.model.specs.Job.{job_divisor}
use Rattle.model.specs.declared.Law.{Law}
use Rattle.model.specs.declared.Start.{Start}
use Rattle.model.specs.declared.Job.{Job}
use Rattle.model.specs.declared.refusal.Refusal.{Refusal}
use Rattle.model.specs.Answer.{Answer, Condition, answer_of, is_accepted, condition, first_refusal}
use Rattle.model.specs.Limits.{unit, most_order, most_severities, most_last, outside, beyond}
use Rattle.model.specs.Mark.{mark_of}
use Rattle.rows.specs.Curve.{curve_rows}
use Rattle.rows.specs.Exact.{curve_marks}
use Rattle.rows.specs.Faults.{first_fault, range_fault}
use Rattle.rows.specs.Layout.{work_places}
use Rattle.rows.specs.declared.fill.Fault.{Fault}
use Rattle.rows.specs.declared.fill.Fault.TheVariants.{Range as RangeFault, Bound as BoundFault}
use Rattle.compound.specs.Lent.{Lent}
use Rattle.compound.specs.declared.Reason.{Reason}
use Rattle.compound.specs.declared.Reason.TheVariants.{Order, Divisor, Term, Start as StartReason, Severities, Weights}
use Rattle.compound.specs.declared.Reason.TheVariants.{ZeroOrder, ZeroDivisor, OnlyZeros, Last, Places, Range, Bound}

-- ---- the answer
abbrev pub number_of : Reason → ℕ
number_of Order = 1
number_of Divisor = 2
number_of Term = 3
number_of StartReason = 4
number_of Severities = 5
number_of Weights = 6
number_of ZeroOrder = 11
number_of ZeroDivisor = 12
number_of OnlyZeros = 13
number_of Last = 7
number_of Places = 8
number_of Range = 9
number_of Bound = 10

-- what the paper says for each answer of the code
abbrev pub paper : {A : Type 0} → Result A (Refusal Reason) → Answer
paper = answer_of number_of

-- the reason of a fault
abbrev pub reason_of : Fault → Reason
reason_of RangeFault = Range
reason_of BoundFault = Bound

-- ---- "1, k; 2, D; 3, a term out of range, or past k and not zero (place: the smallest i); 4, start; 5, m; 6, W; 7, X; 8, a row below X+1
-- places or the work row below 9 times (X+1)."; then "a fourth lent row, .. which 8, 9 and 10 treat like the other three", and "12 times
-- (X+1) places, in check 8 and in what is 0 afterwards"
-- "each from -1,000 to 1,000. Terms past k are zero.", of term i + 1
abbrev pub term_limit : ℕ → ℕ → ℕ
term_limit order i = cond (ltb i order) 1000 0

abbrev pub wrong_term : Law → ℕ → Bool
wrong_term law i = beyond (term_limit law.order i) (get_or law.a i (pos 0)) || beyond (term_limit law.order i) (get_or law.b i (pos 0))

-- the smallest i, from 0, and 4 where no term is wrong
abbrev pub first_wrong_term : Law → ℕ
first_wrong_term law = smallest (wrong_term law) most_order

-- "0 ≤ s ≤ t ≤ U and t ≥ 1"
abbrev pub wrong_start : Start → Bool
wrong_start start = ltb start.high start.low || outside 1 unit start.high

abbrev pub shorter : ℕ → List ℤ → Bool
shorter places row = ltb (length row) places

abbrev pub too_short : ℕ → Lent → Bool
too_short places lent = shorter places lent.low || shorter places lent.high || shorter places lent.bound
    || shorter places lent.mark || shorter (work_places places) lent.work

-- of the law, the start and the table
abbrev pub law_checks : Law → List Condition
law_checks law =
    condition (outside 1 most_order law.order) 1 0
    ∷ condition (outside 1 1000 law.divisor) 2 0
    ∷ condition (ltb (first_wrong_term law) most_order) 3 (first_wrong_term law + 1)
    ∷ []

abbrev pub start_checks : Start → List Condition
start_checks start = condition (wrong_start start) 4 0 ∷ []

abbrev pub table_checks : Job → List ℕ → List Condition
table_checks job weights =
    condition (outside 1 most_severities (length weights)) 5 0
    ∷ condition (outside 1 1000 (all_weight job.zero weights)) 6 0
    ∷ []

abbrev pub job_checks : Job → List ℕ → List Condition
job_checks job weights = law_checks job.law ++ (start_checks job.start ++ table_checks job weights)

-- "11, after 6, a nonzero weight at 0 when k is above 1, then 12 a D times W - A times w(0) of zero or less, then 13 a table whose other
-- weights are all 0"
abbrev pub zero_checks : Job → List ℕ → List Condition
zero_checks job weights =
    condition (ltb 0 job.zero && ltb 1 job.law.order) 11 0
    ∷ condition (eqb (job_divisor job weights) 0) 12 0
    ∷ condition (eqb (total_weight weights) 0) 13 0
    ∷ []

-- of the last total and the rows for the answer
abbrev pub room_checks : Job → Lent → List Condition
room_checks job lent =
    condition (ltb most_last job.last) 7 0
    ∷ condition (too_short (job.last + 1) lent) 8 0
    ∷ []

abbrev pub checks : Job → List ℕ → Lent → List Condition
checks job weights lent = job_checks job weights ++ (zero_checks job weights ++ room_checks job lent)

-- ---- "9: at the smallest x that has a fault, a low or high of any row lies outside -2U to 2U. 10: at that x none does, but a bound of any
-- row is above U."
abbrev pub faults : Job → List ℕ → List Condition
faults job weights =
    condition (range_fault job weights) 9 (first_fault job weights)
    ∷ condition (ltb (first_fault job weights) (job.last + 1)) 10 (first_fault job weights)
    ∷ []

-- ---- the call
unfoldable pub curve_answer : Job → List ℕ → Lent → Answer
curve_answer job weights lent = first_refusal (checks job weights lent ++ faults job weights)

-- "After 9 and 10 the first X+1 places of the three rows are 0. On acceptance they hold row 0."; so of the fourth, with row 0's marks. Of
-- numbers by total
unfoldable pub row_after : (ℕ → ℤ) → Job → List ℕ → List ℤ
row_after number job weights = cond (is_accepted (first_refusal (faults job weights))) (listed number (job.last + 1))
    (replicate (job.last + 1) (pos 0))

-- "The marks of row 0 go to a fourth lent row". "After 9, 10 and acceptance the first .. work places are 0. Later places are untouched."
abbrev pub ran : Job → List ℕ → Lent → Lent
ran job weights lent = record {
  low = written (row_after (λ x. (curve_rows job weights 0 x).low) job weights) lent.low;
  high = written (row_after (λ x. (curve_rows job weights 0 x).high) job weights) lent.high;
  bound = written (row_after (λ x. (curve_rows job weights 0 x).bound) job weights) lent.bound;
  mark = written (row_after (λ x. mark_of (curve_marks job weights 0 x)) job weights) lent.mark;
  work = written (replicate (work_places (job.last + 1)) (pos 0)) lent.work;
}

-- what the lent rows hold on return; 1 to 8, and 11 to 13 among them, "write nothing"
unfoldable pub curve_lent : Job → List ℕ → Lent → Lent
curve_lent job weights lent = cond (is_accepted (first_refusal (checks job weights lent))) (ran job weights lent) lent
