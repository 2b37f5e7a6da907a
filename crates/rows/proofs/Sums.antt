-- The sums of a row, term by term: a term's sums add to those before it what the definition has there, and four terms fit 64 bits.
use mathlib.Core.Path.{◌≡◌, sym, ap, ap₂, ◌∙◌, subst}
use mathlib.Core.List.{List}
use Prim.Native.Nat.{ℕ, zero, suc, ◌+◌, ◌-◌, ◌*◌, ◌≤◌, ◌<◌, zero-le}
use native.Mathlib.Nat as NL
use native.Mathlib.Numerals.{add-one}
use native.Mathlib.Omega.{arith}
use lib.Dec.{lit≤}
use lib.IntN.{ℤ, pos, nat_abs, ◌+ℤ◌, ◌*ℤ◌, +ℤ_comm}
use lib.ListN.{get_or}
use mir.Syntax.{w64}
use mir.Val.{SFits}
use Rattle.algebra.proofs.Sum.{accumulate_zero, accumulate_next, accumulate_from, accumulate_cong}
use Rattle.algebra.proofs.Size.{size_mul_le, size_fits}
use Rattle.model.specs.declared.Law.{Law}
use Rattle.model.specs.declared.Job.{Job}
use Rattle.model.specs.Limits.{most_last, most_totals}
use Rattle.outward.specs.Division.{ceil_div}
use Rattle.enclosure.specs.declared.Entry.{Entry}
use Rattle.enclosure.specs.declared.term.Factor.{Factor}
use Rattle.enclosure.specs.Entry.{none, plus, sum_of, scaled, EntryFits}
use Rattle.enclosure.specs.Term.{Small, TermRoom, line_factor, term_sums}
use Rattle.enclosure.proofs.Scaled.{plus_assoc, plus_none}
use Rattle.enclosure.proofs.Sizes.{term_size, quotient_fits}
use Rattle.rows.specs.Curve.{Rows, severities, factor, sums_zero, sums_next, sums_at}
use Rattle.rows.specs.Layout.{Lent, LongEnough, stored}
use Rattle.rows.specs.Limits.{LawLimits, TableLimits, Limits}
use Rattle.rows.specs.Progress.{ReadyAt, term_factor, weight_alone}
use Rattle.rows.proofs.Stored.{Reachable}

-- ---- what a total is computed from
-- law and table lie within the limits, and no entry at an earlier total has a fault
pub record Basis (law : Law) (weights : List ℕ) (x : ℕ) (rows : Rows) : Type 0 where
  pub law_limits : LawLimits law
  pub table_limits : TableLimits weights
  pub total_most : x ≤ most_last
  pub earlier : (j z : ℕ) → j < law.order → z < x → Small (rows j z)

-- the same of rows that the lent rows hold, and these have places for total x
pub record ReadyIn (law : Law) (weights : List ℕ) (places x : ℕ) (lent : Lent) : Type 0 where
  pub basis : Basis law weights x (stored places lent)
  pub long : LongEnough places lent
  pub places_most : places ≤ most_totals
  pub total_below : x < places

-- by the limits of the job and what the functions ask for
pub ready_in : {job : Job} {weights : List ℕ} {x places : ℕ} {lent : Lent} → Limits job weights → ReadyAt job.law.order x places lent
    → ReadyIn job.law weights places x lent
ready_in limits ready = record {
  basis = record {
    law_limits = limits.law;
    table_limits = limits.table;
    total_most = omega arith;
    earlier = ready.earlier;
  };
  long = ready.room.long;
  places_most = ready.room.places_most;
  total_below = ready.total_below;
}

-- ---- terms
-- a further row is a term whose factor is the weight
pub next_is : (weights : List ℕ) (x : ℕ) (rows : Rows) (j : ℕ)
    → term_sums none (line_factor weight_alone weights) x weights (rows j) ≡ sums_next weights rows j x
unfolding sums_next
next_is weights x rows j = accumulate_cong none plus (severities weights x) (λ y l.
    ap₂ (λ (z : ℤ) (n : ℕ). scaled z (rows j (x - n))) (ap pos (omega arith)) (add-one y))

-- terms, by their factors
module _ (f : ℕ → Factor) (weights : List ℕ) (x : ℕ) (rows : Rows) where
  -- what term i + 1 adds
  abbrev term_sum : ℕ → Entry
  term_sum i = term_sums none (line_factor (f i) weights) x weights (rows i)

  -- the sums of the first n terms
  abbrev pub terms_below : ℕ → Entry
  terms_below n = sum_of n term_sum

  pub terms_more : (n : ℕ) → term_sums (terms_below n) (line_factor (f n) weights) x weights (rows n) ≡ terms_below (n + 1)
  terms_more n =
      accumulate_from none plus plus_assoc plus_none (terms_below n) (severities weights x) _
      ∙ accumulate_next none plus n term_sum

module _ (law : Law) (weights : List ℕ) (x : ℕ) where
  -- the factor of term i + 1
  abbrev law_factor : ℕ → Factor
  law_factor = term_factor law.a law.b x

  -- which is the definition's
  pub factor_is : (i y : ℕ) → line_factor (law_factor i) weights y ≡ factor law weights x i y
  unfolding factor
  factor_is i y =
      let a = get_or law.a i (pos 0) *ℤ pos x in
      let b = get_or law.b i (pos 0) in
      ap (λ (n : ℕ). (b *ℤ pos n +ℤ a) *ℤ pos (get_or weights y 0)) (add-one y)
      ∙ ap (λ (z : ℤ). z *ℤ pos (get_or weights y 0)) (+ℤ_comm (b *ℤ pos (suc y)) a)

  pub terms_all : (rows : Rows) → terms_below law_factor weights x rows law.order ≡ sums_zero law weights rows x
  unfolding sums_zero
  terms_all rows =
      accumulate_cong none plus law.order (λ i l.
      accumulate_cong none plus (severities weights x) (λ y m.
      ap₂ (λ (z : ℤ) (n : ℕ). scaled z (rows i (x - n))) (factor_is i y) (add-one y)))

  -- a row of the lent rows, where the entries at total x are computed
  pub reachable : (places : ℕ) (lent : Lent) → ReadyIn law weights places x lent → (j : ℕ) → j < law.order → Reachable places x lent j
  reachable places lent ready j l = record {
    row_most = omega (arith, ready.basis.law_limits.order_most);
    places_most = ready.places_most;
    total_below = ready.total_below;
    long = ready.long;
  }

  module _ (rows : Rows) (basis : Basis law weights x rows) where
    abbrev below : ℕ → Entry
    below = terms_below law_factor weights x rows

    -- sums that are no larger than n terms can make them
    record Size (sums : Entry) (n : ℕ) : Type 0 where
      low : nat_abs sums.low ≤ n * 2000000000000000000
      high : nat_abs sums.high ≤ n * 2000000000000000000
      bound : nat_abs sums.bound ≤ n * 1000000000000000000

    size_none : Size none 0
    size_none = record { low = zero-le; high = zero-le; bound = zero-le }

    room : (f : Factor) → nat_abs f.constant ≤ 500000 → nat_abs f.slope ≤ 1000 → (sums : Entry) (n : ℕ) → n ≤ 3 → Size sums n
        → (j : ℕ) → j < law.order → TermRoom sums f x weights (rows j)
    room f constant slope sums n k s j l = record {
      constant_small = constant;
      slope_small = slope;
      x_small = basis.total_most;
      weights_small = basis.table_limits.weights_most;
      row_small = λ z m. basis.earlier j z l m;
      low_sum = omega (arith, s.low);
      high_sum = omega (arith, s.high);
      bound_sum = omega (arith, s.bound);
    }

    size_more : (f : Factor) (sums : Entry) (n j : ℕ) → TermRoom sums f x weights (rows j) → Size sums n
        → Size (term_sums sums (line_factor f weights) x weights (rows j)) (n + 1)
    size_more f sums n j h s =
        let t = term_size sums f x weights (rows j) h in
        record { low = omega (arith, t.0, s.low); high = omega (arith, t.1, s.high); bound = omega (arith, t.2, s.bound) }

    -- ---- row 0
    term_room_of : (i : ℕ) → i < law.order → Size (below i) i → TermRoom (below i) (law_factor i) x weights (rows i)
    term_room_of i l s =
        let limits = basis.law_limits in
        let i_most : i ≤ 3 = omega (arith, limits.order_most) in
        let a = get_or law.a i (pos 0) in
        room (law_factor i) (size_mul_le a (pos x) 1000 most_last (limits.a_small i (omega arith)) basis.total_most)
        (limits.b_small i (omega arith)) (below i) i i_most s i l

    terms_size : (n : ℕ) → n ≤ law.order → Size (below n) n
    terms_size zero l = subst (λ (e : Entry). Size e 0) (sym (accumulate_zero none plus _)) size_none
    terms_size (suc n) l =
        let s = terms_size n (omega arith) in
        subst (λ (m : ℕ). Size (below m) m) (add-one n)
        (subst (λ (e : Entry). Size e (n + 1)) (terms_more law_factor weights x rows n)
        (size_more (law_factor n) (below n) n n (term_room_of n l s) s))

    pub term_room : (i : ℕ) → i < law.order → TermRoom (below i) (law_factor i) x weights (rows i)
    term_room i l = term_room_of i l (terms_size i (omega arith))

    -- ---- a further row
    pub next_room : (j : ℕ) → j < law.order → TermRoom none weight_alone x weights (rows j)
    next_room j l = room weight_alone (lit≤ tt) (lit≤ tt) none 0 zero-le size_none j l

    -- ---- the sums that are divided
    sums_size : (j : ℕ) → j < law.order → Size (sums_at law weights rows j x) 4
    sums_size zero l =
        let all = subst (λ (e : Entry). Size e law.order) (terms_all rows) (terms_size law.order (NL.le_refl _)) in
        let most = basis.law_limits.order_most in
        record { low = omega (arith, all.low, most); high = omega (arith, all.high, most); bound = omega (arith, all.bound, most) }
    sums_size (suc j) l =
        let before : j < law.order = omega arith in
        let one = size_more weight_alone none 0 j (next_room j before) size_none in
        let own = subst (λ (e : Entry). Size e 1) (next_is weights x rows j) one in
        record { low = omega (arith, own.low); high = omega (arith, own.high); bound = omega (arith, own.bound) }

    pub sums_at_fit : (j : ℕ) → j < law.order → EntryFits (sums_at law weights rows j x)
    sums_at_fit j l =
        let size = sums_size j l in
        record {
          low = size_fits w64 _ (omega (arith, size.low));
          high = size_fits w64 _ (omega (arith, size.high));
          bound = size_fits w64 _ (omega (arith, size.bound));
        }

    -- and the bound that is made of them, whatever the divisor
    pub bound_fits : (j d : ℕ) → j < law.order → SFits w64 (ceil_div (sums_at law weights rows j x).bound d +ℤ pos 1)
    bound_fits j d l = quotient_fits (sums_at law weights rows j x).bound d (omega (arith, (sums_size j l).bound))
