-- What the functions that fill the rows ask for, and how far the lent rows are filled.
use Rattle.std.specs.Prelude.{◌≡◌, Bool, true, false, cond, ◌&&◌, List, ℕ, ◌+◌, ◌<◌, ltb, ℤ, pos, ◌*ℤ◌, length, get_or, drop}
use Rattle.std.specs.Prelude.{Option, Some, None, Result, Ok, Err, ⊤}
use Rattle.algebra.specs.Sum.{all_of}
use Rattle.algebra.specs.Table.{same_integer}
use Rattle.algebra.specs.Tabled.{Grid}
use Rattle.model.specs.declared.Job.{Job}
use Rattle.model.specs.Weights.{all_weight}
use Rattle.model.specs.Job.{job_divisor}
use Rattle.model.specs.Mark.{mark_of}
use Rattle.enclosure.specs.declared.Entry.{Entry}
use Rattle.enclosure.specs.declared.marks.Settled.{Settled}
use Rattle.enclosure.specs.declared.term.Factor.{Factor}
use Rattle.enclosure.specs.Entry.{out_of_range, bound_too_large}
use Rattle.enclosure.specs.Term.{Small}
use Rattle.enclosure.specs.Known.{SettledRow}
use Rattle.rows.specs.declared.layout.Rows.{Rows as LentRows}
use Rattle.rows.specs.declared.total.Divisors.{Divisors}
use Rattle.rows.specs.declared.fill.Fault.{Fault}
use Rattle.rows.specs.declared.fill.Fault.TheVariants.{Range, Bound}
use Rattle.rows.specs.declared.fill.Stop.{Stop}
use Rattle.rows.specs.Curve.{Rows, entry_at, curve_rows}
use Rattle.rows.specs.Faults.{any_row, first_fault, range_fault}
use Rattle.rows.specs.Exact.{Marks, lows, highs, exact_at, curve_marks}
use Rattle.rows.specs.Layout.{Lent, work_places, stored, stored_numbers, stored_marks}
use Rattle.rows.specs.Lent.{held, entries_in, marks_in, EntryRoomIn}

-- ---- the divisors
abbrev pub divisors_of : Job → List ℕ → Divisors
divisors_of job weights = record { first = job_divisor job weights; further = all_weight job.zero weights }

-- ---- the entries of one total
-- A x + B y, of term i + 1
abbrev pub term_factor : List ℤ → List ℤ → ℕ → ℕ → Factor
term_factor a b x i = record { constant = get_or a i (pos 0) *ℤ pos x; slope = get_or b i (pos 0) }

-- w(y) alone, of a further row
abbrev pub weight_alone : Factor
weight_alone = record { constant = pos 1; slope = pos 0 }

-- the lent rows have room for the entries of total x, and no entry at an earlier total has a fault
pub record ReadyAt (order x places : ℕ) (lent : Lent) : Type 0 where
  pub room : EntryRoomIn places lent
  pub total_below : x < places
  pub earlier : (j z : ℕ) → j < order → z < x → Small (stored places lent j z)

abbrev pub Ready : (order x : ℕ) → LentRows → Type 0
Ready order x lent = ReadyAt order x lent.places (held lent)

-- ---- totals one after the other
-- what the faults of a total's rows come to: that of a low or high goes before that of a bound
abbrev pub fault_by : (range bound : Bool) → Option Fault
fault_by true bound = Some Range
fault_by false true = Some Bound
fault_by false false = None

-- the fault of the first n rows at total x
abbrev pub fault_below : ℕ → Rows → ℕ → Option Fault
fault_below n rows x = fault_by (any_row out_of_range n rows x) (any_row bound_too_large n rows x)

-- a total with a fault stops the run
abbrev pub passed : {A : Type 0} → ℕ → Option Fault → A → Result A Stop
passed x None known = Ok known
passed x (Some fault) known = Err (record { fault = fault; total = x })

-- a row whose places from n on keep what they held
pub record Kept (n : ℕ) (row row₀ : List ℤ) : Type 0 where
  pub same_length : length row ≡ length row₀
  pub later : drop n row ≡ drop n row₀

-- the same of the lent rows: of the three from n on, of the work row past the places that the call uses
pub record RowsKept (n places : ℕ) (lent lent₀ : Lent) : Type 0 where
  pub low : Kept n lent.low lent₀.low
  pub high : Kept n lent.high lent₀.high
  pub bound : Kept n lent.bound lent₀.bound
  pub work : Kept (work_places places) lent.work lent₀.work

-- the lent rows after the entries of the rows below n were put at total x
pub record Advanced (job : Job) (weights : List ℕ) (places x n : ℕ) (lent₀ lent : Lent) : Type 0 where
  pub kept : RowsKept (x + 1) places lent lent₀
  pub earlier : (j z : ℕ) → j < job.law.order → z < x → stored places lent j z ≡ stored places lent₀ j z
  pub entries : (j : ℕ) → j < n → stored places lent j x ≡ entry_at job weights (stored places lent₀) j x

-- the lent rows after the run of the totals: later places keep what they held, and below the first total that has a fault all rows, 0 to
-- k - 1, hold the curve
pub record Filled (job : Job) (weights : List ℕ) (lent₀ lent : Lent) : Type 0 where
  pub kept : RowsKept (job.last + 1) (job.last + 1) lent lent₀
  pub entries : (j z : ℕ) → j < job.law.order → z < first_fault job weights
      → stored (job.last + 1) lent j z ≡ curve_rows job weights j z

-- ---- the marks, beside the entries
-- the marks after those of the rows below n were put at total x, by the rule for the entries `rows` and the marks at the start
pub record MarksAdvanced (job : Job) (weights : List ℕ) (places x n : ℕ) (rows : Rows) (mark₀ work₀ mark work : List ℤ) : Type 0 where
  pub kept : Kept (x + 1) mark mark₀
  pub earlier : (j z : ℕ) → j < job.law.order → z < x → stored_numbers places mark work j z ≡ stored_numbers places mark₀ work₀ j z
  pub marks : (j : ℕ) → j < n
      → stored_numbers places mark work j x ≡ mark_of (exact_at job weights rows (stored_marks places mark₀ work₀) j x)

-- the marks after the run of the totals
pub record MarksFilled (job : Job) (weights : List ℕ) (mark₀ mark work : List ℤ) : Type 0 where
  pub kept : Kept (job.last + 1) mark mark₀
  pub marks : (j z : ℕ) → j < job.law.order → z < first_fault job weights
      → stored_numbers (job.last + 1) mark work j z ≡ mark_of (curve_marks job weights j z)

-- what is known of the rows 0 to k - 1 below total x, so that it is not looked at again
pub record SettledRows (settled : Settled) (order x : ℕ) (low high : Grid ℤ) (marks : Marks) : Type 0 where
  pub row : (j : ℕ) → j < order → SettledRow settled x (low j) (high j) (marks j)

-- of those that the lent rows hold
abbrev pub SettledIn : Settled → ℕ → ℕ → LentRows → Type 0
SettledIn settled order x lent = SettledRows settled order x (lows (entries_in lent)) (highs (entries_in lent)) (marks_in lent)

-- what was known, as far as an entry at total x lets it stand
abbrev pub settled_where : Settled → ℕ → (exact equal : Bool) → Settled
settled_where s x exact equal = record { exact = cond exact s.exact (x + 1); equal = cond equal s.equal (x + 1) }

-- an exact entry with equal ends
abbrev pub exact_equal : Bool → Entry → Bool
exact_equal exact e = exact && same_integer e.low e.high

abbrev pub settled_by : Settled → ℕ → Bool → Entry → Settled
settled_by s x exact e = settled_where s x exact (exact_equal exact e)

-- as far as those of the rows below n do
abbrev pub settled_after : ℕ → Settled → ℕ → Marks → Rows → Settled
settled_after n s x exact rows = settled_where s x (all_of n (λ j. exact j x)) (all_of n (λ j. exact_equal (exact j x) (rows j x)))

-- what comes of total x in the lent rows: a fault, or what is known then
abbrev pub total_answer : Job → List ℕ → LentRows → Settled → ℕ → Result Settled Stop
total_answer job weights lent settled x =
    let entries = entry_at job weights (entries_in lent) in
    let exact = exact_at job weights (entries_in lent) (marks_in lent) in
    passed x (fault_below job.law.order entries x) (settled_after job.law.order settled x exact entries)

-- where the run stops, and by which fault
abbrev pub stop_by : Bool → ℕ → Stop
stop_by range x = record { fault = cond range Range Bound; total = x }

abbrev pub stop_of : Job → List ℕ → Result ⊤ Stop
stop_of job weights = cond (ltb (first_fault job weights) (job.last + 1))
    (Err (stop_by (range_fault job weights) (first_fault job weights))) (Ok tt)
