-- Marks where they lie: a mark that is put changes no other and no entry, and an entry that is put changes no mark.
use mathlib.Core.Path.{◌≡◌, refl, sym, ap, ◌∙◌}
use mathlib.Core.Bool.{Bool}
use mathlib.Core.List.{List}
use Prim.Native.Nat.{ℕ, zero, suc, ◌+◌, ◌*◌, ◌≤◌, ◌<◌}
use native.Mathlib.Nat as NL
use native.Mathlib.Omega.{arith}
use lib.Dec.{lit<}
use lib.IntN.{ℤ, pos}
use lib.ListN.{length, get_or, take, drop, set}
use lib.Seq.{get_or-take, get_or-drop, get_or-set_same, get_or-set_other}
use Rattle.model.specs.Mark.{mark_of}
use Rattle.enclosure.specs.declared.Entry.{Entry}
use Rattle.rows.specs.Layout.{Lent, lent_rows, work_places, column_at, stored, placed}
use Rattle.rows.specs.Layout.{marks_at, stored_numbers, mark_put, work_put}
use Rattle.rows.proofs.Stored.{cell_apart, column_cell}

pub marks_within : (places j : ℕ) → j ≤ 2 → marks_at places j + places ≤ work_places places
marks_within places j h = omega (arith, NL.mul-le-mul_right places (twelve h))
  where
    twelve : j ≤ 2 → 9 + j + 1 ≤ 12
    twelve h = omega arith

marks_cell : (work : List ℤ) (places j z : ℕ) → z < places
    → get_or (take places (drop (marks_at places j) work)) z (pos 0) ≡ get_or work (marks_at places j + z) (pos 0)
marks_cell work places j z h =
    let at = marks_at places j in
    get_or-take places (drop at work) z (pos 0) h ∙ get_or-drop at work z (pos 0)

-- ---- an entry is put
pub placed_marks : (places : ℕ) (mark : List ℤ) (lent : Lent) (j x : ℕ) (e : Entry) (i z : ℕ) → j ≤ 3 → x < places → z < places
    → stored_numbers places mark (placed places lent j x e).work i z ≡ stored_numbers places mark lent.work i z
placed_marks places mark lent zero x e i z hj hx hz = refl
placed_marks places mark lent (suc j) x e zero z hj hx hz = refl
placed_marks places mark lent (suc j) x e (suc i) z hj hx hz =
    let k = marks_at places i + z in
    let work = lent.work in
    let cell : ℕ → ℕ = λ m. column_at places j m + x in
    marks_cell _ places i z hz
    ∙ get_or-set_other (set (set work (cell 0) e.low) (cell 1) e.high) (cell 2) k e.bound (pos 0) (other 2 (lit< tt))
    ∙ get_or-set_other (set work (cell 0) e.low) (cell 1) k e.high (pos 0) (other 1 (lit< tt))
    ∙ get_or-set_other work (cell 0) k e.low (pos 0) (other 0 (lit< tt))
    ∙ sym (marks_cell work places i z hz)
  where
    other : (m : ℕ) → m < 3 → marks_at places i + z ≡ column_at places j m + x → ⊥
    other m hm = cell_apart places (9 + i) (3 * j + m) z x hz hx (λ q _. omega arith)

-- ---- a mark is put
module _ (places : ℕ) (j x : ℕ) (exact : Bool) (hx : x < places) where
  -- the entries of the rows that have columns
  pub marked_stored : (low high bound work : List ℤ) (i z : ℕ) → i ≤ 3 → z < places
      → stored places (lent_rows low high bound (work_put places work j x exact)) i z ≡ stored places (lent_rows low high bound work) i z
  marked_stored low high bound work i z = by j i
    where
      kept : (j i n : ℕ) → i ≤ 2 → n < 3 → z < places
          → get_or (take places (drop (column_at places i n) (set work (marks_at places j + x) (mark_of exact)))) z (pos 0)
          ≡ get_or (take places (drop (column_at places i n) work)) z (pos 0)
      kept j i n hi hn hz = column_cell _ places i n z hz
          ∙ get_or-set_other work (marks_at places j + x) (column_at places i n + z) (mark_of exact) (pos 0)
          (cell_apart places (3 * i + n) (9 + j) z x hz hx (λ q _. omega arith))
          ∙ sym (column_cell work places i n z hz)

      by : (j i : ℕ) → i ≤ 3 → z < places → stored places (lent_rows low high bound (work_put places work j x exact)) i z
          ≡ stored places (lent_rows low high bound work) i z
      by zero i hi hz = refl
      by (suc j) zero hi hz = refl
      by (suc j) (suc i) hi hz = λ k. record {
        low = kept j i 0 (omega arith) (lit< tt) hz k;
        high = kept j i 1 (omega arith) (lit< tt) hz k;
        bound = kept j i 2 (omega arith) (lit< tt) hz k;
      }

  module _ (mark work : List ℤ) where
    abbrev after : ℕ → ℕ → ℤ
    after = stored_numbers places (mark_put mark j x exact) (work_put places work j x exact)

    -- every other mark
    pub marked_other : (i z : ℕ) → z < places → (i ≡ j → z ≡ x → ⊥) → after i z ≡ stored_numbers places mark work i z
    marked_other i z hz = by j i
      where
        by : (j i : ℕ) → (i ≡ j → z ≡ x → ⊥)
            → stored_numbers places (mark_put mark j x exact) (work_put places work j x exact) i z ≡ stored_numbers places mark work i z
        by zero zero apart = get_or-set_other mark x z (mark_of exact) (pos 0) (apart refl)
        by zero (suc i) apart = refl
        by (suc j) zero apart = refl
        by (suc j) (suc i) apart = marks_cell _ places i z hz
            ∙ get_or-set_other work (marks_at places j + x) (marks_at places i + z) (mark_of exact) (pos 0)
            (cell_apart places (9 + i) (9 + j) z x hz hx (λ q r. apart (ap suc (omega arith)) r))
            ∙ sym (marks_cell work places i z hz)

    -- the mark itself
    pub marked_own : j ≤ 3 → places ≤ length mark → work_places places ≤ length work → after j x ≡ mark_of exact
    marked_own hj hm hw = by j hj
      where
        by : (j : ℕ) → j ≤ 3 → stored_numbers places (mark_put mark j x exact) (work_put places work j x exact) j x ≡ mark_of exact
        by zero h = get_or-set_same mark x (mark_of exact) (pos 0) (omega arith)
        by (suc j) h =
            let inside : marks_at places j + x < length work = omega (arith, marks_within places j (omega arith)) in
            marks_cell _ places j x hx ∙ get_or-set_same work (marks_at places j + x) (mark_of exact) (pos 0) inside
