-- The ends of products, sums and quotients, each end by itself: a product by the sign of its factor (under a negative one each end comes from
-- the other, which is equal), a sum by its terms, a quotient by cancelling the divisor.
use mathlib.Core.Path.{◌≡◌, refl, sym, ◌∙◌, ap, ap₂, subst}
use Prim.Native.Nat.{ℕ, zero, suc}
use lib.Dec.{T}
use lib.IntN.{ℤ, pos, negsuc, ◌*ℤ◌, zero-*ℤ}
use Rattle.algebra.specs.Semiring.{nat}
use Rattle.algebra.specs.Ring.{int}
use Rattle.algebra.specs.Order.{OrderedRing}
use Rattle.algebra.proofs.And.{both, all_each}
use Rattle.algebra.proofs.Order.{cancel_eq}
use Rattle.algebra.proofs.Ring.{int_add, int_mul}
use Rattle.algebra.proofs.Semiring.{zero_mul}
use Rattle.algebra.proofs.Sum.{sum_related}
use Rattle.algebra.proofs.Table.{same_integer_lem}
use Rattle.outward.specs.Division.{floor_div, ceil_div}
use Rattle.outward.proofs.Division.{divides_is}
use Rattle.outward.proofs.Enclosed.{times_natural}
use Rattle.enclosure.specs.Entry.{none, plus, scaled, rounded}
use Rattle.enclosure.specs.Ends.{ProductExact, SumExact, TermSumExact, QuotientExact}

module _ (O : OrderedRing) where
  open O.ring.semiring use {carrier as A, 𝟘, ◌⊹◌, ◌·◌}

  infixl 6 ◌⊹◌
  infixl 7 ◌·◌
  abbrev integer : ℤ → A
  integer = int O.ring

  abbrev natural : ℕ → A
  natural = nat O.ring.semiring

  -- ---- a product
  by_zero : (z : ℤ) (u : A) → integer (pos 0 *ℤ z) ≡ integer (pos 0) · u
  unfolding int nat
  by_zero z u = ap integer (zero-*ℤ z) ∙ sym (zero_mul O.ring.semiring u)

  product : (factor z : ℤ) {u : A} → integer z ≡ u → integer (factor *ℤ z) ≡ integer factor · u
  product factor z e = int_mul O.ring factor z ∙ ap (λ (w : A). integer factor · w) e

  pub product_exact : ProductExact O
  unfolding scaled
  product_exact (pos zero) e exact u v h t = record { low = by_zero e.low u; high = by_zero e.high v }
  product_exact (pos (suc n)) e exact u v h t = record {
    low = product (pos (suc n)) e.low (h t).low;
    high = product (pos (suc n)) e.high (h t).high;
  }
  product_exact (negsuc n) e exact u v h t =
      let (marked, same) = both t in
      let equal = same_integer_lem e.low e.high (subst T (sym same) tt) in
      record {
        low = product (negsuc n) e.high (ap integer (sym equal) ∙ (h marked).low);
        high = product (negsuc n) e.low (ap integer equal ∙ (h marked).high);
      }

  -- ---- a sum
  pub sum_exact : SumExact O
  unfolding int nat
  sum_exact n e u v h = record {
    low = sum_related (λ e u. integer e.low ≡ u) none plus 𝟘 ◌⊹◌ refl
        (λ a c b d p q. int_add O.ring a.low c.low ∙ ap₂ ◌⊹◌ p q) n e u (λ i l. (h i l).low);
    high = sum_related (λ e u. integer e.high ≡ u) none plus 𝟘 ◌⊹◌ refl
        (λ a c b d p q. int_add O.ring a.high c.high ∙ ap₂ ◌⊹◌ p q) n e v (λ i l. (h i l).high);
  }

  -- ---- the sum of a term
  pub term_sum_exact : TermSumExact O
  term_sum_exact n factor e exact u v h t =
      sum_exact n _ _ _ (λ y l. product_exact (factor y) (e y) (exact y) (u y) (v y) (h y l) (all_each n _ t y l))

  -- ---- a quotient
  pub quotient_exact : QuotientExact O
  unfolding rounded
  quotient_exact d sums u v l e t =
      let (of_low, of_high) = both t in
      record {
        low = cancelled (floor_div sums.low d) (divides_is sums.low d l of_low).0 e.low;
        high = cancelled (ceil_div sums.high d) (divides_is sums.high d l of_high).1 e.high;
      }
    where
      cancelled : (q : ℤ) {z : ℤ} {w : A} → pos d *ℤ q ≡ z → integer z ≡ natural d · w → integer q ≡ w
      cancelled q p e = cancel_eq O d l (sym (times_natural O d q) ∙ ap integer p ∙ e)
