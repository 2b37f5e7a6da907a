-- The raised sums of a run, lowered, are its sums, since that holds of each entry; and none of them is large, since no weight, line or
-- entry is.
use mathlib.Core.Path.{◌≡◌, refl, sym, ◌∙◌, ap, ap₂, subst}
use mathlib.Core.List.{List, [], ◌∷◌}
use Prim.Native.Nat.{ℕ, ◌+◌, ◌-◌, ◌*◌, ◌≤◌, ◌<◌}
use native.Mathlib.Nat as NL
use native.Mathlib.Omega.{arith}
use lib.IntN.{ℤ, pos, negsuc, nat_abs, ◌+ℤ◌, ◌-ℤ◌, ◌*ℤ◌, +ℤ-neg_ℤ_cancel}
use lib.Dec.{T}
use lib.Signed.{◌≤ℤ◌, non_neg, yes_non_neg, pos-nat_abs}
use lib.ListN.{get_or}
use mir.Syntax.{w64}
use mir.Val.{SFits}
use Rattle.algebra.specs.Solver.{var, ◌:+◌, ◌:*◌, :-◌}
use Rattle.algebra.specs.Sum.{accumulate_back}
use Rattle.algebra.proofs.Solver.{solve}
use Rattle.algebra.proofs.Sum.{sum_related, sum_parts, accumulate_next}
use Rattle.algebra.proofs.Line.{line_before}
use Rattle.algebra.proofs.Size.{size_add, size_mul, size_fits}
use Rattle.algebra.proofs.Integer.{integers, signed, split_add, split_size, *ℤ-+ℤ, *ℤ-nonneg}
use Rattle.model.specs.Limits.{unit}
use Rattle.enclosure.specs.declared.Entry.{Entry}
use Rattle.enclosure.specs.declared.term.Factor.{Factor}
use Rattle.enclosure.specs.declared.raised.Raised.{Raised}
use Rattle.enclosure.specs.Entry.{none, plus, scaled}
use Rattle.enclosure.specs.Term.{Small, line_at, line_factor}
use Rattle.enclosure.specs.Run.{AddRoom, RunRoom, RaisedSmall, run_sums}
use Rattle.enclosure.specs.Run.{raised, raised_term, raised_none, raised_plus, raised_at, raised_sums, lowered}
use Rattle.enclosure.proofs.Scaled.{same_entry}
use Rattle.enclosure.proofs.Sizes.{first_weights, one_weight, slope_fits, line_size, factor_size}

-- ---- lowered
lowered_column : (a b f g : ℕ)
    → pos a -ℤ pos f *ℤ pos (2 * unit) +ℤ (pos b -ℤ pos g *ℤ pos (2 * unit))
    ≡ pos (a + b) -ℤ pos (f + g) *ℤ pos (2 * unit)
lowered_column a b f g = solve integers (pos a ∷ pos b ∷ pos f ∷ pos g ∷ pos (2 * unit) ∷ [])
    (var 0 :+ :- (var 2 :* var 4) :+ (var 1 :+ :- (var 3 :* var 4))) (var 0 :+ var 1 :+ :- ((var 2 :+ var 3) :* var 4)) tt

lowered_plus : (r s : Raised) → plus (lowered r) (lowered s) ≡ lowered (raised_plus r s)
lowered_plus r s = same_entry (lowered_column r.low s.low r.factors s.factors)
    (lowered_column r.high s.high r.factors s.factors) (lowered_column r.bound s.bound r.factors s.factors)

pub raised_nonneg : (z : ℤ) → nat_abs z ≤ 2 * unit → T (non_neg (z +ℤ pos (2 * unit)))
raised_nonneg z h = yes_non_neg {z = z +ℤ pos (2 * unit)} (omega (signed, split_size z, split_add z (pos (2 * unit))))

pub raised_size : (z : ℤ) → nat_abs z ≤ 2 * unit → raised z ≤ 4 * unit
raised_size z h = omega (arith, size_add z (pos (2 * unit)))

term_column : (n : ℕ) (z : ℤ) → nat_abs z ≤ 2 * unit → pos (n * raised z) -ℤ pos n *ℤ pos (2 * unit) ≡ pos n *ℤ z
term_column n z h = ap (λ (v : ℤ). pos n *ℤ v -ℤ pos n *ℤ pos (2 * unit)) (pos-nat_abs (z +ℤ pos (2 * unit)) (raised_nonneg z h))
    ∙ ap (λ (v : ℤ). v -ℤ pos n *ℤ pos (2 * unit)) (*ℤ-+ℤ (pos n) z (pos (2 * unit)))
    ∙ +ℤ-neg_ℤ_cancel (pos n *ℤ z) (pos n *ℤ pos (2 * unit))

lowered_term : (f : ℤ) (e : Entry) → pos 0 ≤ℤ f → Small e → lowered (raised_term (nat_abs f) e) ≡ scaled f e
unfolding scaled
lowered_term (pos n) e h s = same_entry (term_column n e.low s.low) (term_column n e.high s.high)
    (term_column n e.bound (omega (arith, s.bound)))
lowered_term (negsuc n) e h s = absurd h.le

-- ---- sizes
-- raised sums over severities whose weights come to w
record Light (r : Raised) (w : ℕ) : Type 0 where
  pub low : r.low ≤ w * 4000000000000000
  pub high : r.high ≤ w * 4000000000000000
  pub bound : r.bound ≤ w * 4000000000000000
  pub factors : r.factors ≤ w * 1000000

light_none : Light raised_none 0
light_none = record { low = NL.le_refl 0; high = NL.le_refl 0; bound = NL.le_refl 0; factors = NL.le_refl 0 }

light_plus : (r s : Raised) (v w : ℕ) → Light r v → Light s w → Light (raised_plus r s) (v + w)
light_plus r s v w p q = record {
  low = omega (arith, p.low, q.low);
  high = omega (arith, p.high, q.high);
  bound = omega (arith, p.bound, q.bound);
  factors = omega (arith, p.factors, q.factors);
}

light_term : (n w : ℕ) (e : Entry) → n ≤ w * 1000000 → Small e → Light (raised_term n e) w
light_term n w e h s = record {
  low = column e.low s.low;
  high = column e.high s.high;
  bound = column e.bound (omega (arith, s.bound));
  factors = h;
}
  where
    column : (z : ℤ) → nat_abs z ≤ 2 * unit → n * raised z ≤ w * 4000000000000000
    column z k = omega (arith, NL.mul-le-mul h (raised_size z k))

-- ---- a run
module _ (f : Factor) (from to x : ℕ) (weights : List ℕ) (row : ℕ → Entry) (h : RunRoom f from to x weights row) where
  abbrev weight : ℕ → ℕ
  weight y = get_or weights y 0

  -- the severities of the run, and the entries that they read
  record Within (y : ℕ) : Type 0 where
    pub line : pos 0 ≤ℤ line_at f (y + 1)
    pub line_small : nat_abs (line_at f (y + 1)) ≤ 1000000
    pub factor_small : nat_abs (line_factor f weights y) ≤ weight y * 1000000
    pub entry_small : Small (row (x - (y + 1)))

  within : (y : ℕ) → from ≤ y → y < to → Within y
  within y k l = record {
    line = h.line_upright (y + 1) (omega arith) (omega arith);
    line_small = line_size f h.factor_small (y + 1) (omega (arith, h.below_x, h.x_small));
    factor_small = factor_size f h.factor_small weights y (omega (arith, h.below_x, h.x_small));
    entry_small = h.row_small (x - (y + 1)) (omega (arith, h.below_x));
  }

  pub run_lowered : lowered (raised_sums f to (to - from) x weights row) ≡ run_sums f from to x weights row
  run_lowered = sum_related (λ r e. lowered r ≡ e) raised_none raised_plus none plus refl
      (λ a c b d p q. sym (lowered_plus a c) ∙ ap₂ plus p q) (to - from) _ _
      (λ i l.
      let y = to - (i + 1) in
      let t = within y (omega arith) (omega arith) in
      lowered_term (line_factor f weights y) (row (x - (y + 1)))
      (*ℤ-nonneg (line_at f (y + 1)) (pos (weight y)) t.line (omega signed)) t.entry_small)

  -- the weights of the last n severities of the run
  weights_back : (n : ℕ) → n ≤ to → accumulate_back 0 ◌+◌ to n weight ≤ 1000
  weights_back n k = omega (
    arith,
    sum_parts 0 ◌+◌ NL.add_assoc NL.add_comm NL.add-zero 0 to n weight k,
    first_weights to weights,
    h.weights_small,
  )

  pub run_small : (n : ℕ) → n ≤ to - from → RaisedSmall (raised_sums f to n x weights row)
  run_small n k =
      let s = sum_related Light raised_none raised_plus 0 ◌+◌ light_none light_plus n (λ i. raised_at f x weights row (to - (i + 1)))
      (λ i. weight (to - (i + 1))) (λ i l.
      let t = within (to - (i + 1)) (omega arith) (omega arith) in
      light_term _ (weight (to - (i + 1))) _ t.factor_small t.entry_small) in
      let w = weights_back n (omega (arith, h.in_order)) in
      record {
        low_small = omega (arith, s.low);
        high_small = omega (arith, s.high);
        bound_small = omega (arith, s.bound);
        factors_small = omega (arith, s.factors);
      }

  -- ---- one turn of the loop, which adds severity s; it is s - 1 from 0
  pub record Turn (s y : ℕ) : Type 0 where
    pub line_nonneg : T (non_neg (line_at f s))
    pub line_small : nat_abs (line_at f s) ≤ 1000000
    pub weight_small : weight y ≤ 1000
    pub factor_is : nat_abs (line_at f s) * weight y ≡ nat_abs (line_factor f weights y)
    pub room : AddRoom (raised_sums f to (to - s) x weights row) (nat_abs (line_factor f weights y)) (row (x - (y + 1)))
    pub sums_next : raised_plus (raised_sums f to (to - s) x weights row) (raised_at f x weights row y)
        ≡ raised_sums f to (to - y) x weights row
    pub line_next : line_at f s -ℤ f.slope ≡ line_at f y
    pub line_fits : SFits w64 (line_at f y)
    pub slope_fits : SFits w64 f.slope

  pub turn : (s y : ℕ) → s ≡ y + 1 → from ≤ y → y < to → Turn s y
  turn s y e k l =
      let t = within y k l in
      let most = NL.le_trans (one_weight y weights) h.weights_small in
      let n = to - (y + 1) in
      let again : to - (n + 1) ≡ y = omega arith in
      let more : to - y ≡ n + 1 = omega arith in
      let next : raised_plus (raised_sums f to n x weights row) (raised_at f x weights row y)
      ≡ raised_sums f to (to - y) x weights row =
      ap (λ (v : ℕ). raised_plus (raised_sums f to n x weights row) (raised_at f x weights row v)) (sym again)
      ∙ accumulate_next raised_none raised_plus n (λ i. raised_at f x weights row (to - (i + 1)))
      ∙ ap (λ (v : ℕ). raised_sums f to v x weights row) (sym more) in
      rw e record {
        line_nonneg = yes_non_neg t.line;
        line_small = t.line_small;
        weight_small = most;
        factor_is = sym (size_mul (line_at f (y + 1)) (pos (weight y)));
        room = record {
          factor_small = omega (arith, t.factor_small, most);
          low_small = t.entry_small.low;
          high_small = t.entry_small.high;
          bound_small = omega (arith, t.entry_small.bound);
          sums_small = subst RaisedSmall (sym next) (run_small (to - y) (omega arith));
        };
        sums_next = next;
        line_next = line_before f.slope f.constant y;
        line_fits = size_fits w64 (line_at f y) (omega (arith, line_size f h.factor_small y (omega (arith, h.below_x, h.x_small))));
        slope_fits = slope_fits f h.factor_small;
      }
