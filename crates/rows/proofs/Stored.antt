-- Reading and writing the rows where they lie: a place of the work row belongs to one column and one total, so that an entry that is put
-- at a total changes no other.
use mathlib.Core.Path.{◌≡◌, refl, sym, ap, ◌∙◌}
use mathlib.Core.List.{List}
use Prim.Native.Nat.{ℕ, zero, suc, ◌+◌, ◌*◌, ◌≤◌, ◌<◌}
use native.Mathlib.Nat as NL
use native.Mathlib.Decide.{dec_lt}
use native.Mathlib.Omega.{arith}
use lib.Dec.{lit<, lit≤}
use lib.IntN.{ℤ, pos}
use lib.ListN.{length, get_or, take, drop, set, length-set}
use lib.Seq.{get_or-take, get_or-drop, get_or-set_same, get_or-set_other}
use Rattle.model.specs.Limits.{most_totals}
use Rattle.enclosure.specs.declared.Entry.{Entry}
use Rattle.rows.specs.Layout.{Lent, LongEnough, work_places, column_at, column_of, stored, put_columns, placed}

-- a row of the lent rows that a function may read or write at total x
pub record Reachable (places x : ℕ) (lent : Lent) (j : ℕ) : Type 0 where
  pub row_most : j ≤ 3
  pub places_most : places ≤ most_totals
  pub total_below : x < places
  pub long : LongEnough places lent

-- ---- columns
-- column n of row j + 1 lies in the work row
pub column_within : (places j n : ℕ) → j ≤ 2 → n ≤ 2 → column_at places j n + places ≤ work_places places
column_within places j n h k = omega (arith, NL.mul-le-mul_right places (nine j n h k))
  where
    nine : (j n : ℕ) → j ≤ 2 → n ≤ 2 → 3 * j + n + 1 ≤ 9
    nine j n h k = omega arith

-- a place of a column
pub column_cell : (work : List ℤ) (places j n z : ℕ) → z < places
    → get_or (take places (drop (column_at places j n) work)) z (pos 0) ≡ get_or work (column_at places j n + z) (pos 0)
column_cell work places j n z h =
    let at = column_at places j n in
    get_or-take places (drop at work) z (pos 0) h ∙ get_or-drop at work z (pos 0)

-- ---- an entry that is put
-- two cells of the work row that are not in one column at one total are two places
pub cell_apart : (n a b z x : ℕ) → z < n → x < n → (a ≡ b → z ≡ x → ⊥) → a * n + z ≡ b * n + x → ⊥
cell_apart n a b z x hz hx apart e = by (dec_lt a b) (dec_lt b a)
  where
    same : (a < b → ⊥) → (b < a → ⊥) → a ≡ b
    same h k = omega arith

    by : Dec (a < b) → Dec (b < a) → ⊥
    by (yes h) k = omega (arith, NL.mul-le-mul_right n h)
    by (no h) (yes k) = omega (arith, NL.mul-le-mul_right n k)
    by (no h) (no k) = apart (same h k) (omega (arith, ap (λ (m : ℕ). m * n) (same h k)))

module _ (places : ℕ) (work : List ℤ) (j x : ℕ) (e : Entry) (hx : x < places) where
  abbrev cell : ℕ → ℕ
  cell n = column_at places j n + x

  abbrev after : List ℤ
  after = put_columns work places j x e

  -- a cell of another row or at another total
  cell_kept : (i n z : ℕ) → n < 3 → z < places → (i ≡ j → z ≡ x → ⊥)
      → get_or (take places (drop (column_at places i n) after)) z (pos 0)
      ≡ get_or (take places (drop (column_at places i n) work)) z (pos 0)
  cell_kept i n z hn hz apart =
      let k = column_at places i n + z in
      column_cell after places i n z hz
      ∙ get_or-set_other (set (set work (cell 0) e.low) (cell 1) e.high) (cell 2) k e.bound (pos 0) (other 2 (lit< tt))
      ∙ get_or-set_other (set work (cell 0) e.low) (cell 1) k e.high (pos 0) (other 1 (lit< tt))
      ∙ get_or-set_other work (cell 0) k e.low (pos 0) (other 0 (lit< tt))
      ∙ sym (column_cell work places i n z hz)
    where
      same : (m : ℕ) → m < 3 → 3 * i + n ≡ 3 * j + m → i ≡ j
      same m hm q = omega arith

      other : (m : ℕ) → m < 3 → column_at places i n + z ≡ cell m → ⊥
      other m hm = cell_apart places (3 * i + n) (3 * j + m) z x hz hx (λ q. apart (same m hm q))

  -- the cells themselves
  module _ (h : work_places places ≤ length work) (hj : j ≤ 2) where
    abbrev one : List ℤ
    one = set work (cell 0) e.low

    abbrev two : List ℤ
    two = set one (cell 1) e.high

    inside : (n : ℕ) → n ≤ 2 → cell n < length work
    inside n k = omega (arith, column_within places j n hj k)

    apart : (n m : ℕ) → (n ≡ m → ⊥) → cell n ≡ cell m → ⊥
    apart n m other = cell_apart places (3 * j + n) (3 * j + m) x x hx hx (λ q _. other (omega arith))

    low_put : get_or (take places (drop (column_at places j 0) after)) x (pos 0) ≡ e.low
    low_put = column_cell after places j 0 x hx
        ∙ get_or-set_other two (cell 2) (cell 0) e.bound (pos 0) (apart 0 2 (λ q. omega arith))
        ∙ get_or-set_other one (cell 1) (cell 0) e.high (pos 0) (apart 0 1 (λ q. omega arith))
        ∙ get_or-set_same work (cell 0) e.low (pos 0) (inside 0 (lit≤ tt))

    high_put : get_or (take places (drop (column_at places j 1) after)) x (pos 0) ≡ e.high
    high_put = column_cell after places j 1 x hx
        ∙ get_or-set_other two (cell 2) (cell 1) e.bound (pos 0) (apart 1 2 (λ q. omega arith))
        ∙ get_or-set_same one (cell 1) e.high (pos 0) (simp length-set (inside 1 (lit≤ tt)))

    bound_put : get_or (take places (drop (column_at places j 2) after)) x (pos 0) ≡ e.bound
    bound_put = column_cell after places j 2 x hx
        ∙ get_or-set_same two (cell 2) e.bound (pos 0) (simp length-set (inside 2 (lit≤ tt)))

module _ (places : ℕ) (lent : Lent) (x : ℕ) (e : Entry) where
  -- every other entry stays what it was
  pub placed_other : (j i z : ℕ) → x < places → z < places → (i ≡ j → z ≡ x → ⊥)
      → stored places (placed places lent j x e) i z ≡ stored places lent i z
  placed_other zero zero z hx hz apart =
      let other : z ≡ x → ⊥ = apart refl in
      (λ k. record {
        low = get_or-set_other lent.low x z e.low (pos 0) other k;
        high = get_or-set_other lent.high x z e.high (pos 0) other k;
        bound = get_or-set_other lent.bound x z e.bound (pos 0) other k;
      })
  placed_other zero (suc i) z hx hz apart = refl
  placed_other (suc j) zero z hx hz apart = refl
  placed_other (suc j) (suc i) z hx hz apart = λ k. record {
    low = kept 0 (lit< tt) k;
    high = kept 1 (lit< tt) k;
    bound = kept 2 (lit< tt) k;
  }
    where
      kept : (n : ℕ) → n < 3 → get_or (column_of places (suc i) n lent.low (put_columns lent.work places j x e)) z (pos 0)
          ≡ get_or (column_of places (suc i) n lent.low lent.work) z (pos 0)
      kept n hn = cell_kept places lent.work j x e hx i n z hn hz (λ p q. apart (ap suc p) q)

  pub placed_own : (j : ℕ) → Reachable places x lent j → stored places (placed places lent j x e) j x ≡ e
  placed_own zero h = λ k. record {
    low = get_or-set_same lent.low x e.low (pos 0) (omega (arith, h.total_below, h.long.low_long)) k;
    high = get_or-set_same lent.high x e.high (pos 0) (omega (arith, h.total_below, h.long.high_long)) k;
    bound = get_or-set_same lent.bound x e.bound (pos 0) (omega (arith, h.total_below, h.long.bound_long)) k;
  }
  placed_own (suc j) h =
      let row : j ≤ 2 = omega (arith, h.row_most) in
      let long = h.long.work_long in
      λ k. record {
        low = low_put places lent.work j x e h.total_below long row k;
        high = high_put places lent.work j x e h.total_below long row k;
        bound = bound_put places lent.work j x e h.total_below long row k;
      }
