-- Equal ends come from equal ends: a product's by dividing the factor out, a sum's part by part, and a quotient's since both sums lie from
-- d times its low to d times its high, which are then the same number.
use mathlib.Core.Path.{◌≡◌, refl, sym, ◌∙◌, ap, ap₂}
use mathlib.Core.Bool.{Bool, true, ◌&&◌}
use Prim.Native.Nat.{zero, suc, ◌≤◌}
use native.Mathlib.Nat as NL
use native.Mathlib.Omega.{arith}
use lib.IntN.{ℤ, pos, negsuc, nat_abs, ◌*ℤ◌}
use lib.Signed.{◌≤ℤ◌}
use Rattle.algebra.specs.Table.{same_integer}
use Rattle.algebra.proofs.Bits.{same_self}
use Rattle.algebra.proofs.Integer.{integer_order, signed, split_add, split_mul, le_of_split, eq_of_split}
use Rattle.algebra.proofs.Order.{add_mono, mul_mono, mul_turn}
use Rattle.algebra.proofs.Sum.{sum_related}
use Rattle.outward.specs.Division.{floor_div, ceil_div}
use Rattle.outward.proofs.Division.{floor_is, ceil_is, divides_multiple}
use Rattle.enclosure.specs.declared.Entry.{Entry}
use Rattle.enclosure.specs.Entry.{none, plus, scaled, rounded}
use Rattle.enclosure.specs.EqualEnds.{EqualMarked, ProductMarked, SumMarked, QuotientMarked}

-- ---- a product
divided_out : (z a b : ℤ) → 1 ≤ nat_abs z → z *ℤ a ≡ z *ℤ b → a ≡ b
divided_out (pos n) a b l e =
    eq_of_split (NL.eq_of_mul-eq-mul_left n l _ _ (omega (signed, split_mul (pos n) a, split_mul (pos n) b)))
divided_out (negsuc n) a b l e =
    eq_of_split (NL.eq_of_mul-eq-mul_left (suc n) l _ _ (omega (signed, split_mul (negsuc n) a, split_mul (negsuc n) b)))

pub product_marked : ProductMarked
unfolding scaled
product_marked (pos zero) e exact h = record {
  in_order = mul_mono integer_order (pos 0) (omega signed) h.in_order;
  marked = λ _. refl;
}
product_marked (pos (suc n)) e exact h = record {
  in_order = mul_mono integer_order (pos (suc n)) (omega signed) h.in_order;
  marked = λ p. h.marked (divided_out (pos (suc n)) e.low e.high (omega arith) p);
}
product_marked (negsuc n) e exact h = record {
  in_order = mul_turn integer_order (negsuc n) (omega signed) h.in_order;
  marked = λ p.
      let same = sym (divided_out (negsuc n) e.high e.low (omega arith) p) in
      ap₂ ◌&&◌ (h.marked same) (ap (same_integer e.low) (sym same) ∙ same_self e.low);
}

-- ---- a sum
plus_marked : (e f : Entry) (s t : Bool) → EqualMarked e s → EqualMarked f t → EqualMarked (plus e f) (s && t)
plus_marked e f s t h k = record {
  in_order = add_mono integer_order h.in_order k.in_order;
  marked = λ p.
      let lows = split_add e.low f.low in
      let highs = split_add e.high f.high in
      ap₂ ◌&&◌ (h.marked (omega (signed, lows, highs))) (k.marked (omega (signed, lows, highs)));
}

pub sum_marked : SumMarked
sum_marked = sum_related EqualMarked none plus true ◌&&◌ (record { in_order = omega signed; marked = λ _. refl }) plus_marked

-- ---- a quotient
pub quotient_marked : QuotientMarked
unfolding rounded
quotient_marked d sums exact l h = record {
  in_order = le_of_split (NL.le_of_mul-le-mul_left {k = d}
      (omega (signed, below, above, split_mul (pos d) low, split_mul (pos d) high)) l);
  marked = λ p.
      let same = ap (λ (q : ℤ). pos d *ℤ q) p in
      let of_low : pos d *ℤ low ≡ sums.low = omega (signed, below, above, same) in
      let of_high : pos d *ℤ low ≡ sums.high = omega (signed, below, above, same) in
      ap₂ ◌&&◌ (ap₂ ◌&&◌ (divides_multiple low sums.low d of_low) (divides_multiple low sums.high d of_high))
      (h.marked (sym of_low ∙ of_high));
}
  where
    low : ℤ
    low = floor_div sums.low d

    high : ℤ
    high = ceil_div sums.high d

    below : (pos d *ℤ low) ≤ℤ sums.low
    below = (floor_is sums.low d l).0

    above : sums.high ≤ℤ (pos d *ℤ high)
    above = (ceil_is sums.high d l).0
