-- Where the rows lie: row 0 in the lent rows, a further row in columns of the work row, three for its entries and one for its marks.
use Rattle.std.specs.Prelude.{Bool, List, ℕ, zero, suc, ◌+◌, ◌*◌, ◌≤◌, ℤ, length, set, take, drop}
use Rattle.algebra.specs.Tabled.{Grid}
use Rattle.model.specs.Mark.{mark_of, is_exact}
use Rattle.enclosure.specs.declared.Entry.{Entry}
use Rattle.enclosure.specs.Term.{entry_of}
use Rattle.enclosure.specs.Mark.{number_in}
use Rattle.rows.specs.Curve.{Rows}
use Rattle.rows.specs.Exact.{Marks}

-- the lent rows
pub record Lent : Type 0 where
  pub low : List ℤ
  pub high : List ℤ
  pub bound : List ℤ
  pub work : List ℤ

abbrev pub lent_rows : List ℤ → List ℤ → List ℤ → List ℤ → Lent
lent_rows low high bound work = record { low = low; high = high; bound = bound; work = work }

-- "The work row is then 12 times (X+1) places": low, high and bound of the rows 1 to 3, and then their marks
abbrev pub entry_columns : ℕ
entry_columns = 9

abbrev pub work_columns : ℕ
work_columns = 12

abbrev pub work_places : ℕ → ℕ
work_places places = work_columns * places

-- rows that are long enough, by the number of totals
pub record LongEnough (places : ℕ) (lent : Lent) : Type 0 where
  pub low_long : places ≤ length lent.low
  pub high_long : places ≤ length lent.high
  pub bound_long : places ≤ length lent.bound
  pub work_long : work_places places ≤ length lent.work

-- ---- the rows in the lent rows
-- where column n of row j + 1 begins in the work row, of low 0, high 1 and bound 2; it has as many places as there are totals
abbrev pub column_at : ℕ → ℕ → ℕ → ℕ
column_at places j n = (3 * j + n) * places

-- column n of row j: for row 0 a lent row
abbrev pub column_of : ℕ → ℕ → ℕ → List ℤ → List ℤ → List ℤ
column_of places zero n first work = first
column_of places (suc j) n first work = take places (drop (column_at places j n) work)

-- the rows, read from their columns
abbrev pub stored : ℕ → Lent → Rows
stored places lent j = entry_of (column_of places j 0 lent.low lent.work) (column_of places j 1 lent.high lent.work)
    (column_of places j 2 lent.bound lent.work)

-- an entry put at total x of the columns of row j + 1
abbrev pub put_columns : List ℤ → ℕ → ℕ → ℕ → Entry → List ℤ
put_columns work places j x e =
    set (set (set work (column_at places j 0 + x) e.low) (column_at places j 1 + x) e.high) (column_at places j 2 + x) e.bound

-- an entry put at total x of row j
abbrev pub placed : ℕ → Lent → ℕ → ℕ → Entry → Lent
placed places lent zero x e = record {
  low = set lent.low x e.low;
  high = set lent.high x e.high;
  bound = set lent.bound x e.bound;
  work = lent.work;
}
placed places lent (suc j) x e = record {
  low = lent.low;
  high = lent.high;
  bound = lent.bound;
  work = put_columns lent.work places j x e;
}

-- ---- the marks: row 0's in a lent row, those of a further row in a column of the work row
-- where the marks of row j + 1 begin
abbrev pub marks_at : ℕ → ℕ → ℕ
marks_at places j = (entry_columns + j) * places

abbrev pub marks_of : ℕ → ℕ → List ℤ → List ℤ → List ℤ
marks_of places zero mark work = mark
marks_of places (suc j) mark work = take places (drop (marks_at places j) work)

abbrev pub stored_numbers : ℕ → List ℤ → List ℤ → Grid ℤ
stored_numbers places mark work j = number_in (marks_of places j mark work)

abbrev pub stored_marks : ℕ → List ℤ → List ℤ → Marks
stored_marks places mark work j z = is_exact (stored_numbers places mark work j z)

-- a mark put at total x of row j: what the lent row holds then, and what the work row holds
abbrev pub mark_put : List ℤ → ℕ → ℕ → Bool → List ℤ
mark_put mark zero x exact = set mark x (mark_of exact)
mark_put mark (suc j) x exact = mark

abbrev pub work_put : ℕ → List ℤ → ℕ → ℕ → Bool → List ℤ
work_put places work zero x exact = work
work_put places work (suc j) x exact = set work (marks_at places j + x) (mark_of exact)
