-- The rational number that a fraction stands for. A claim about fractions is proved as an equation or an order between rational numbers;
-- whole numbers, quotients and sums of fractions are what they should be there.
use mathlib.Core.Path.{◌≡◌, refl, sym, ◌∙◌, ap, ap₂}
use Prim.Native.Nat.{ℕ, zero, suc, ◌+◌, ◌≤◌}
use native.Mathlib.Nat as NL
use native.Mathlib.Omega.{arith}
use lib.IntN.{ℤ, pos, negsuc, neg_ℤ, ◌+ℤ◌}
use lib.Signed.{◌≤ℤ◌}
use Rattle.algebra.specs.Semiring.{Semiring, nat}
use Rattle.algebra.specs.Ring.{int}
use Rattle.algebra.specs.Order.{OrderedRing}
use Rattle.algebra.specs.Sum.{accumulate, sum, sumℤ}
use Rattle.algebra.specs.Fraction.{Fraction, over, whole, ◌⊕◌, ◌⊗◌, over_suc, ◌≈◌, ◌≼◌, Between, one_to, zero_to, product}
use Rattle.algebra.proofs.Semiring.{ring, ring_units, nat_zero, nat_suc}
use Rattle.algebra.proofs.Ring.{int_pos, int_add, int_neg, neg_unique}
use Rattle.algebra.proofs.Integer.{integers, signed, split_add, *ℤ-mono, *ℤ-cancel-le}
use Rattle.algebra.proofs.Order.{rewritten, add_mono, neg_mono, sum_mono}
use Rattle.algebra.proofs.Sum.{sum_related}
use Rattle.algebra.proofs.Rational.{rationals}

-- ---- what the laws of whole numbers and quotients come to
module _ (S : Semiring) where
  open S use {carrier as A, 𝟙, ◌⊹◌, ◌·◌}

  infixl 6 ◌⊹◌
  infixl 7 ◌·◌
  over_one : (a c : A) → (a ⊹ c) · (𝟙 · 𝟙) ≡ (a · 𝟙 ⊹ c · 𝟙) · 𝟙
  over_one a c = simp ring_units

  over_itself : (n z : A) → n · z · 𝟙 ≡ z · (𝟙 · n)
  over_itself n z = simp (ring, ring_units)

  over_product : (n u l : A) → n · u · l ≡ u · (𝟙 · (l · n))
  over_product n u l = simp (ring, ring_units)

abbrev Z : Semiring
Z = integers.semiring

-- ---- values
abbrev pub order : OrderedRing
order = rationals.order

abbrev pub ℚ : Semiring
ℚ = order.ring.semiring

open ℚ use {carrier as A, 𝟘, 𝟙, ◌⊹◌, ◌·◌}

infixl 6 ◌⊹◌
infixl 7 ◌·◌
pub value : Fraction → ℚ.carrier
value x = rationals.value x

-- ---- the promises once more, as lemmas that `simp` and `rw` can name
pub value_eq : {x y : Fraction} → x ≈ y → value x ≡ value y
unfolding value
value_eq {x} {y} = (rationals.value_eq x y).0

pub eq_of_value : {x y : Fraction} → value x ≡ value y → x ≈ y
unfolding value
eq_of_value {x} {y} = (rationals.value_eq x y).1

pub value_le : {x y : Fraction} → x ≼ y → order.◌⊑◌ (value x) (value y)
unfolding value
value_le {x} {y} = (rationals.value_le x y).0

pub le_of_value : {x y : Fraction} → order.◌⊑◌ (value x) (value y) → x ≼ y
unfolding value
le_of_value {x} {y} = (rationals.value_le x y).1

pub value_zero : value (whole (pos 0)) ≡ 𝟘
unfolding value
value_zero = rationals.value_zero

pub value_one : value (whole (pos 1)) ≡ 𝟙
unfolding value
value_one = rationals.value_one

pub value_plus : (x y : Fraction) → value (x ⊕ y) ≡ value x ⊹ value y
unfolding value
value_plus = rationals.value_plus

pub value_times : (x y : Fraction) → value (x ⊗ y) ≡ value x · value y
unfolding value
value_times = rationals.value_times

-- ---- whole numbers
value_add : (a c : ℤ) → value (whole (a +ℤ c)) ≡ value (whole a) ⊹ value (whole c)
unfolding whole over ◌⊕◌
value_add a c = value_eq {x = whole (a +ℤ c)} {y = whole a ⊕ whole c} (record { across = over_one Z a c }) ∙ value_plus (whole a) (whole c)

pub value_nat : (n : ℕ) → value (whole (pos n)) ≡ nat ℚ n
value_nat zero = value_zero ∙ sym (nat_zero ℚ)
value_nat (suc n) = ap (λ (m : ℕ). value (whole (pos m))) one_more ∙ value_add (pos n) (pos 1)
    ∙ ap₂ ◌⊹◌ (value_nat n) value_one ∙ sym (nat_suc ℚ n)
  where
    one_more : suc n ≡ n + 1
    one_more = omega arith

pub value_int : (z : ℤ) → value (whole z) ≡ int order.ring z
unfolding int
value_int (pos n) = value_nat n
value_int (negsuc n) = neg_unique order.ring (nat ℚ (suc n)) (value (whole (negsuc n)))
    (ap (λ (v : A). value (whole (negsuc n)) ⊹ v) (sym (value_nat (suc n))) ∙ sym (value_add (negsuc n) (pos (suc n)))
    ∙ ap (λ (z : ℤ). value (whole z)) none ∙ value_zero)
  where
    none : negsuc n +ℤ pos (suc n) ≡ pos 0
    none = omega (signed, split_add (negsuc n) (pos (suc n)))

-- ---- quotients, times their divisors
times_nat : (n : ℕ) (x y : Fraction) → whole (pos n) ⊗ x ≈ y → nat ℚ n · value x ≡ value y
times_nat n x y e = ap (λ (v : A). v · value x) (sym (value_nat n)) ∙ sym (value_times (whole (pos n)) x) ∙ value_eq e

pub value_over : (z : ℤ) (n : ℕ) (h : 1 ≤ n) → nat ℚ n · value (over z n h) ≡ int order.ring z
unfolding whole over ◌⊗◌
value_over z n h = times_nat n (over z n h) (whole z) (record { across = over_itself Z (pos n) z }) ∙ value_int z

-- a natural number over another, and the numbers of a fraction
pub value_over_nat : (m n : ℕ) (h : 1 ≤ n) → nat ℚ n · value (over (pos m) n h) ≡ nat ℚ m
value_over_nat m n h = value_over (pos m) n h ∙ int_pos order.ring m

pub value_upper : (x : Fraction) → nat ℚ x.lower · value x ≡ int order.ring x.upper
unfolding over
value_upper x = value_over x.upper x.lower x.lower_pos

pub value_over_suc : (x : Fraction) (n : ℕ) → nat ℚ (suc n) · value (over_suc x n) ≡ value x
unfolding whole over over_suc ◌⊗◌
value_over_suc x n = times_nat (suc n) (over_suc x n) x
    (record { across = over_product Z (pos (suc n)) x.upper (pos x.lower) })

-- ---- sums
pub value_accumulate : (n : ℕ) (g : ℕ → Fraction) → value (accumulate (whole (pos 0)) ◌⊕◌ n g) ≡ sum ℚ n (λ i. value (g i))
value_accumulate n g = sum_related (λ (x : Fraction) (v : A). value x ≡ v) (whole (pos 0)) ◌⊕◌ 𝟘 ◌⊹◌ value_zero
    (λ x y u v p q. value_plus x y ∙ ap₂ ◌⊹◌ p q) n g (λ i. value (g i)) (λ i l. refl)

pub value_one_to : (n : ℕ) (g : ℕ → Fraction) → value (one_to n g) ≡ sum ℚ n (λ i. value (g (suc i)))
unfolding one_to
value_one_to n g = value_accumulate n (λ i. g (suc i))

pub value_zero_to : (n : ℕ) (g : ℕ → Fraction) → value (zero_to n g) ≡ sum ℚ (suc n) (λ i. value (g i))
unfolding zero_to
value_zero_to n g = value_accumulate (suc n) g

-- ---- products
pub value_product_zero : (g : ℕ → Fraction) → value (product 0 g) ≡ 𝟙
unfolding product accumulate
value_product_zero g = value_one

pub value_product_suc : (n : ℕ) (g : ℕ → Fraction) → value (product (suc n) g) ≡ value (product n g) · value (g n)
unfolding product accumulate
value_product_suc n g = value_times (accumulate (whole (pos 1)) ◌⊗◌ n g) (g n)

-- ---- the order of fractions, as that of their values
pub ≼_refl : (x : Fraction) → x ≼ x
≼_refl x = le_of_value (order.le_refl (value x))

pub ≼_trans : {x y z : Fraction} → x ≼ y → y ≼ z → x ≼ z
≼_trans h k = le_of_value (order.le_trans (value_le h) (value_le k))

pub ≼-dec : (x y : Fraction) → Dec (x ≼ y)
≼-dec x y = by (order.le_dec (value x) (value y))
  where
    by : Dec (order.◌⊑◌ (value x) (value y)) → Dec (x ≼ y)
    by (yes h) = yes (le_of_value h)
    by (no f) = no (λ h. f (value_le h))

-- v lies from low to high
pub record Within (low high : ℤ) (v : ℚ.carrier) : Type 0 where
  pub below : order.◌⊑◌ (int order.ring low) v
  pub above : order.◌⊑◌ v (int order.ring high)

pub within_value : (low high : ℤ) (x : Fraction) → Between low high x → Within low high (value x)
within_value low high x (l, h) = record { below = rw (← value_int) (value_le l); above = rw (← value_int) (value_le h) }

pub of_within : (low high : ℤ) (x : Fraction) → Within low high (value x) → Between low high x
of_within low high x w = (le_of_value (rw value_int w.below), le_of_value (rw value_int w.above))

-- sums and negatives of such numbers
pub within_zero : Within (pos 0) (pos 0) 𝟘
unfolding int nat
within_zero = record { below = order.le_refl 𝟘; above = order.le_refl 𝟘 }

pub within_add : {a b c d : ℤ} {u v : A} → Within a b u → Within c d v → Within (a +ℤ c) (b +ℤ d) (u ⊹ v)
within_add p q = record {
  below = rw int_add (add_mono order p.below q.below);
  above = rw int_add (add_mono order p.above q.above);
}

pub within_neg : {a b : ℤ} {u : A} → Within a b u → Within (neg_ℤ b) (neg_ℤ a) (order.ring.neg u)
within_neg p = record { below = rw int_neg (neg_mono order p.above); above = rw int_neg (neg_mono order p.below) }

-- amounts in order, sums in order
pub plus_mono : {x y : Fraction} (e : Fraction) → x ≼ y → x ⊕ e ≼ y ⊕ e
plus_mono {x} {y} e h = le_of_value (rw (value_plus x e, value_plus y e) (order.add_le (value e) (value_le h)))

pub zero_to_mono : (n : ℕ) (f g : ℕ → Fraction) → ((i : ℕ) → i ≤ n → f i ≼ g i) → zero_to n f ≼ zero_to n g
zero_to_mono n f g h = le_of_value (rewritten order (sum_mono order (suc n) (λ i l. value_le (h i (omega arith))))
    (sym (value_zero_to n f)) (sym (value_zero_to n g)))

-- the order of whole numbers, and of a whole number and a sum of them
pub whole_mono : {a c : ℤ} → a ≤ℤ c → whole a ≼ whole c
unfolding whole over
whole_mono h = record { across = *ℤ-mono 1 h }

pub le_of_whole : {a c : ℤ} → whole a ≼ whole c → a ≤ℤ c
unfolding whole over
le_of_whole h = *ℤ-cancel-le 1 (NL.le_refl 1) h.across

whole_sum : (n : ℕ) (f : ℕ → ℤ) → value (whole (sumℤ (suc n) f)) ≡ value (zero_to n (λ i. whole (f i)))
whole_sum n f = sum_related (λ (z : ℤ) (v : A). value (whole z) ≡ v) (pos 0) ◌+ℤ◌ 𝟘 ◌⊹◌ value_zero
    (λ a c u v p q. value_add a c ∙ ap₂ ◌⊹◌ p q) (suc n) f (λ i. value (whole (f i))) (λ i l. refl)
    ∙ sym (value_zero_to n (λ i. whole (f i)))

pub whole_le_sum : (a : ℤ) (n : ℕ) (f : ℕ → ℤ) → a ≤ℤ sumℤ (suc n) f → whole a ≼ zero_to n (λ i. whole (f i))
whole_le_sum a n f h = le_of_value (rewritten order (value_le (whole_mono h)) refl (whole_sum n f))

pub le_of_whole_sum : (a : ℤ) (n : ℕ) (f : ℕ → ℤ) → whole a ≼ zero_to n (λ i. whole (f i)) → a ≤ℤ sumℤ (suc n) f
le_of_whole_sum a n f h = le_of_whole (le_of_value (rewritten order (value_le h) refl (sym (whole_sum n f))))
