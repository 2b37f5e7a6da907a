-- Text that is put into a row of bytes, one piece after the other.
use Rattle.std.specs.Prelude.{◌≡◌, List, [], ◌∷◌, ℕ, ◌+◌, ◌≤◌, min, length, set}
use Rattle.std.specs.Borrow.{MutBor}
use Rattle.algebra.specs.Slice.{written}
use Rattle.output.specs.declared.Output as declared

-- a row of bytes, and the place for the next one
pub record Output : Type 0 where
  pub row : List ℕ
  pub place : ℕ

abbrev pub output : List ℕ → ℕ → Output
output row place = record { row = row; place = place }

-- one byte more; where the row has no place for it, it is dropped, and the place is one past the row's end
abbrev pub put_byte : Output → ℕ → Output
put_byte out b = output (set out.row out.place b) (min out.place (length out.row) + 1)

unfoldable pub put : Output → List ℕ → Output
put out [] = out
put out (b ∷ text) = put (put_byte out b) text

-- `after` is `before` with a text put into it
pub record Puts (text : List ℕ) (before after : Output) : Type 0 where
  pub is : after ≡ put before text

-- ---- the row that the code holds, and its place
abbrev pub held : declared.Output → Output
held out = output out.row.now out.at

-- at the start of a lent row
pub record StartsIn (row : MutBor (List ℕ)) (out : declared.Output) : Type 0 where
  pub is : held out ≡ output row.now 0
  pub same_row : out.row.ghost_name ≡ row.ghost_name

-- the same row, with a text put into it
pub record PutsInto (text : List ℕ) (before after : declared.Output) : Type 0 where
  pub is_put : Puts text (held before) (held after)
  pub same_row : after.row.ghost_name ≡ before.row.ghost_name

-- ---- what is proved of it
-- a text that the row has room for stands whole at its start, and the place is behind it
abbrev pub PutWhole : Type 0
PutWhole = (row text : List ℕ) → length text ≤ length row → put (output row 0) text ≡ output (written text row) (length text)
