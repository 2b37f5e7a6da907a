-- The rational numbers as classes of fractions: fractions each of which is at most the other are one class. Every law is an identity of
-- integers, proved over any semiring and used at ℤ.
use mathlib.Core.Path.{◌≡◌, refl, sym, ◌∙◌, ap}
use Prim.Native.Nat.{ℕ, ◌*◌}
use std.Quotient.{◌/◌, cls, eq/, /_set, /_rec, /_rec₂, /_elim_prop, /_elim_prop₂, /_elim_prop₃, IsEquivRel, effective}
use std.HProp.{HProp, HProp-set, HProp-ext}
use std.HLevel.{Π_prop, Dec-prop}
use lib.IntN.{ℤ, pos, neg_ℤ, ◌+ℤ◌, ◌*ℤ◌, ℤ_set}
use lib.Signed.{◌≤ℤ◌, ≤ℤ_refl}
use Rattle.algebra.specs.Semiring.{Semiring}
use Rattle.algebra.specs.Ring.{Ring}
use Rattle.algebra.specs.Fraction.{Fraction, over, whole, ◌⊕◌, ◌⊗◌, ◌≈◌, ◌≼◌}
use Rattle.algebra.specs.Rational.{Rationals}
use Rattle.algebra.proofs.Semiring.{ring, ring_units, zero_mul}
use Rattle.algebra.proofs.Ring.{neg_mul}
use Rattle.algebra.proofs.Integer.{integers, integer_order, signed, split_mul, ≤ℤ-trans, ≤ℤ-antisymm, ≤ℤ-dec, ≤ℤ-total, ≤ℤ_prop}
use Rattle.algebra.proofs.Integer.{+ℤ-mono, *ℤ-nonneg, *ℤ-mono, *ℤ-cancel-le}
use Rattle.algebra.proofs.Order.{rewritten, le_of_eq}

-- ---- what the laws come to
module _ (S : Semiring) where
  open S use {carrier as A, 𝟘, 𝟙, ◌⊹◌, ◌·◌}

  infixl 6 ◌⊹◌
  infixl 7 ◌·◌
  turn : (a b c : A) → a · b · c ≡ a · c · b
  turn a b c = simp ring

  spread : (a p c q r : A) → (a · q ⊹ c · p) · (r · q) ≡ a · r · (q · q) ⊹ c · q · (p · r)
  spread a p c q r = simp ring

  spread' : (a p c q r : A) → (a · q ⊹ c · p) · (r · q) ≡ a · r · (q · q) ⊹ c · q · (r · p)
  spread' a p c q r = simp ring

  add_commutes : (a p c q : A) → (a · q ⊹ c · p) · (q · p) ≡ (c · p ⊹ a · q) · (p · q)
  add_commutes a p c q = simp ring

  add_associates : (a p c q e r : A)
      → ((a · q ⊹ c · p) · r ⊹ e · (p · q)) · (p · (q · r)) ≡ (a · (q · r) ⊹ (c · r ⊹ e · q) · p) · (p · q · r)
  add_associates a p c q e r = simp ring

  add_nothing : (a p : A) → (a · 𝟙 ⊹ 𝟘 · p) · p ≡ a · (p · 𝟙)
  add_nothing a p = simp (ring, ring_units)

  mul_across : (a c q r : A) → a · c · (r · q) ≡ a · r · (c · q)
  mul_across a c q r = simp ring

  mul_commutes : (a p c q : A) → a · c · (q · p) ≡ c · a · (p · q)
  mul_commutes a p c q = simp ring

  mul_associates : (a p c q e r : A) → a · c · e · (p · (q · r)) ≡ a · (c · e) · (p · q · r)
  mul_associates a p c q e r = simp ring

  mul_unit : (a p : A) → a · 𝟙 · p ≡ a · (p · 𝟙)
  mul_unit a p = simp ring_units

  mul_null : (a p : A) → a · 𝟘 · 𝟙 ≡ 𝟘 · (p · 𝟙)
  mul_null a p = simp ring_units

  mul_distributes : (a p c q e r : A)
      → a · (c · r ⊹ e · q) · (p · q · (p · r)) ≡ (a · c · (p · r) ⊹ a · e · (p · q)) · (p · (q · r))
  mul_distributes a p c q e r = simp ring

module _ (R : Ring) where
  open R.semiring use {carrier as A, 𝟘, 𝟙, ◌⊹◌, ◌·◌}
  open R use {neg}

  infixl 6 ◌⊹◌
  infixl 7 ◌·◌
  cancels : (a p : A) → (a · p ⊹ neg a · p) · 𝟙 ≡ 𝟘 · (p · p)
  cancels a p = rw (R.semiring.mul_one, neg_mul, R.add_neg) (sym (zero_mul R.semiring (p · p)))

abbrev Z : Semiring
Z = integers.semiring

-- ---- equality and order of fractions
-- the lower number as an integer
abbrev below : Fraction → ℤ
below x = pos x.lower

≈-prop : (x y : Fraction) → IsProp (x ≈ y)
≈-prop x y = λ h k i. record { across = ℤ_set _ _ h.across k.across i }

≼_prop : (x y : Fraction) → IsProp (x ≼ y)
≼_prop x y = λ h k i. record { across = ≤ℤ_prop _ _ h.across k.across i }

≼-of-≈ : (x y : Fraction) → x ≈ y → x ≼ y
≼-of-≈ x y e = record { across = le_of_eq integer_order e.across }

≈-sym : (x y : Fraction) → x ≈ y → y ≈ x
≈-sym x y e = record { across = sym e.across }

-- a q ≤ c p and c r ≤ e q: then a r q ≤ c p r ≤ e p q
≼_trans : (x y z : Fraction) → x ≼ y → y ≼ z → x ≼ z
≼_trans x y z h k = record {
  across = *ℤ-cancel-le y.lower y.lower_pos (≤ℤ-trans
      (rewritten integer_order (*ℤ-mono z.lower h.across)
      (turn Z x.upper (below y) (below z)) (turn Z y.upper (below x) (below z)))
      (rewritten integer_order (*ℤ-mono x.lower k.across) refl (turn Z z.upper (below y) (below x))));
}

≈-trans : (x y z : Fraction) → x ≈ y → y ≈ z → x ≈ z
≈-trans x y z h k = record {
  across = ≤ℤ-antisymm (≼_trans x y z (≼-of-≈ x y h) (≼-of-≈ y z k)).across
      (≼_trans z y x (≼-of-≈ z y (≈-sym y z k)) (≼-of-≈ y x (≈-sym x y h))).across;
}

≈-equivalence : IsEquivRel ◌≈◌
≈-equivalence = record { reflexive = λ x. record { across = refl }; symmetric = ≈-sym; transitive = ≈-trans }

-- ---- operations
minus : Fraction → Fraction
minus x = record { upper = neg_ℤ x.upper; lower = x.lower; lower_pos = x.lower_pos }

plus_left : (x x' y : Fraction) → x ≈ x' → x ⊕ y ≈ x' ⊕ y
unfolding ◌⊕◌
plus_left x x' y e = record {
  across = spread Z x.upper (below x) y.upper (below y) (below x')
      ∙ ap (λ (v : ℤ). v *ℤ (below y *ℤ below y) +ℤ y.upper *ℤ below y *ℤ (below x *ℤ below x')) e.across
      ∙ sym (spread' Z x'.upper (below x') y.upper (below y) (below x));
}

plus_comm : (x y : Fraction) → x ⊕ y ≈ y ⊕ x
unfolding ◌⊕◌
plus_comm x y = record { across = add_commutes Z x.upper (below x) y.upper (below y) }

times_comm : (x y : Fraction) → x ⊗ y ≈ y ⊗ x
unfolding ◌⊗◌
times_comm x y = record { across = mul_commutes Z x.upper (below x) y.upper (below y) }

times_left : (x x' y : Fraction) → x ≈ x' → x ⊗ y ≈ x' ⊗ y
unfolding ◌⊗◌
times_left x x' y e = record {
  across = mul_across Z x.upper y.upper (below y) (below x')
      ∙ ap (λ (v : ℤ). v *ℤ (y.upper *ℤ below y)) e.across
      ∙ sym (mul_across Z x'.upper y.upper (below y) (below x));
}

minus_resp : (x x' : Fraction) → x ≈ x' → minus x ≈ minus x'
unfolding minus
minus_resp x x' e = record {
  across = neg_mul integers x.upper (below x') ∙ ap neg_ℤ e.across ∙ sym (neg_mul integers x'.upper (below x));
}

plus_minus : (x : Fraction) → x ⊕ minus x ≈ whole (pos 0)
unfolding ◌⊕◌ minus whole over
plus_minus x = record { across = cancels integers x.upper (below x) }

-- ---- classes
ℚ : Type 0
ℚ = Fraction / ◌≈◌

class : Fraction → ℚ
unfolding ℚ
class x = cls x

-- a commutative operation on fractions that keeps ≈ on the left gives one on classes
module _ (op : Fraction → Fraction → Fraction) (comm : (x y : Fraction) → op x y ≈ op y x)
    (left : (x x' y : Fraction) → x ≈ x' → op x y ≈ op x' y) where
  right : (x y y' : Fraction) → y ≈ y' → op x y ≈ op x y'
  right x y y' e = ≈-trans _ _ _ (comm x y) (≈-trans _ _ _ (left y y' x e) (comm y' x))

  lifted : ℚ → ℚ → ℚ
  unfolding ℚ /_rec₂
  lifted = /_rec₂ /_set (λ x y. cls (op x y))
      (λ x x' y e. eq/ (op x y) (op x' y) (left x x' y e)) (λ x y y' e. eq/ (op x y) (op x y') (right x y y' e))

  lifted_comm : (a b : ℚ) → lifted a b ≡ lifted b a
  unfolding ℚ lifted
  lifted_comm = /_elim_prop₂ (λ a b. lifted a b ≡ lifted b a) (λ a b. /_set _ _) (λ x y. eq/ (op x y) (op y x) (comm x y))

infixl 6 ◌+ℚ◌
◌+ℚ◌ : ℚ → ℚ → ℚ
◌+ℚ◌ = lifted ◌⊕◌ plus_comm plus_left

infixl 7 ◌*ℚ◌
◌*ℚ◌ : ℚ → ℚ → ℚ
◌*ℚ◌ = lifted ◌⊗◌ times_comm times_left

negℚ : ℚ → ℚ
unfolding ℚ /_rec
negℚ = /_rec /_set (λ x. cls (minus x)) (λ x x' e. eq/ (minus x) (minus x') (minus_resp x x' e))

-- ---- the ring
add_comm : (a b : ℚ) → a +ℚ b ≡ b +ℚ a
unfolding ◌+ℚ◌
add_comm = lifted_comm ◌⊕◌ plus_comm plus_left

add_assoc : (a b c : ℚ) → a +ℚ b +ℚ c ≡ a +ℚ (b +ℚ c)
unfolding ℚ lifted ◌+ℚ◌ ◌⊕◌
add_assoc = /_elim_prop₃ (λ a b c. a +ℚ b +ℚ c ≡ a +ℚ (b +ℚ c)) (λ a b c. /_set _ _)
    (λ x y z. eq/ (x ⊕ y ⊕ z) (x ⊕ (y ⊕ z))
    (record { across = add_associates Z x.upper (below x) y.upper (below y) z.upper (below z) }))

add_zero : (a : ℚ) → a +ℚ class (whole (pos 0)) ≡ a
unfolding ℚ lifted ◌+ℚ◌ class ◌⊕◌ whole over
add_zero = /_elim_prop (λ a. a +ℚ class (whole (pos 0)) ≡ a) (λ a. /_set _ _)
    (λ x. eq/ (x ⊕ whole (pos 0)) x (record { across = add_nothing Z x.upper (below x) }))

add_neg : (a : ℚ) → a +ℚ negℚ a ≡ class (whole (pos 0))
unfolding ℚ lifted ◌+ℚ◌ negℚ class
add_neg = /_elim_prop (λ a. a +ℚ negℚ a ≡ class (whole (pos 0))) (λ a. /_set _ _)
    (λ x. eq/ (x ⊕ minus x) (whole (pos 0)) (plus_minus x))

mul_comm : (a b : ℚ) → a *ℚ b ≡ b *ℚ a
unfolding ◌*ℚ◌
mul_comm = lifted_comm ◌⊗◌ times_comm times_left

mul_assoc : (a b c : ℚ) → a *ℚ b *ℚ c ≡ a *ℚ (b *ℚ c)
unfolding ℚ lifted ◌*ℚ◌ ◌⊗◌
mul_assoc = /_elim_prop₃ (λ a b c. a *ℚ b *ℚ c ≡ a *ℚ (b *ℚ c)) (λ a b c. /_set _ _)
    (λ x y z. eq/ (x ⊗ y ⊗ z) (x ⊗ (y ⊗ z))
    (record { across = mul_associates Z x.upper (below x) y.upper (below y) z.upper (below z) }))

mul_one : (a : ℚ) → a *ℚ class (whole (pos 1)) ≡ a
unfolding ℚ lifted ◌*ℚ◌ class ◌⊗◌ whole over
mul_one = /_elim_prop (λ a. a *ℚ class (whole (pos 1)) ≡ a) (λ a. /_set _ _)
    (λ x. eq/ (x ⊗ whole (pos 1)) x (record { across = mul_unit Z x.upper (below x) }))

mul_zero : (a : ℚ) → a *ℚ class (whole (pos 0)) ≡ class (whole (pos 0))
unfolding ℚ lifted ◌*ℚ◌ class ◌⊗◌ whole over
mul_zero = /_elim_prop (λ a. a *ℚ class (whole (pos 0)) ≡ class (whole (pos 0))) (λ a. /_set _ _)
    (λ x. eq/ (x ⊗ whole (pos 0)) (whole (pos 0)) (record { across = mul_null Z x.upper (below x) }))

mul_add : (a b c : ℚ) → a *ℚ (b +ℚ c) ≡ a *ℚ b +ℚ a *ℚ c
unfolding ℚ lifted ◌*ℚ◌ ◌+ℚ◌ ◌⊕◌ ◌⊗◌
mul_add = /_elim_prop₃ (λ a b c. a *ℚ (b +ℚ c) ≡ a *ℚ b +ℚ a *ℚ c) (λ a b c. /_set _ _)
    (λ x y z. eq/ (x ⊗ (y ⊕ z)) (x ⊗ y ⊕ x ⊗ z)
    (record { across = mul_distributes Z x.upper (below x) y.upper (below y) z.upper (below z) }))

ringℚ : Ring
ringℚ = record {
  semiring = record {
    carrier = ℚ;
    𝟘 = class (whole (pos 0));
    𝟙 = class (whole (pos 1));
    ◌⊹◌ = ◌+ℚ◌;
    ◌·◌ = ◌*ℚ◌;
    add_comm = add_comm;
    add_assoc = add_assoc;
    add_zero = add_zero;
    mul_comm = mul_comm;
    mul_assoc = mul_assoc;
    mul_one = mul_one;
    mul_zero = mul_zero;
    mul_add = mul_add;
  };
  neg = negℚ;
  add_neg = add_neg;
}

-- ---- the order
orderly : Fraction → Fraction → HProp {0}
orderly x y = (x ≼ y, ≼_prop x y)

orderly_left : (x x' y : Fraction) → x ≈ x' → orderly x y ≡ orderly x' y
unfolding orderly
orderly_left x x' y e = HProp-ext (orderly x y) (orderly x' y)
    (λ h. ≼_trans x' x y (≼-of-≈ x' x (≈-sym x x' e)) h) (λ h. ≼_trans x x' y (≼-of-≈ x x' e) h)

orderly_right : (x y y' : Fraction) → y ≈ y' → orderly x y ≡ orderly x y'
unfolding orderly
orderly_right x y y' e = HProp-ext (orderly x y) (orderly x y')
    (λ h. ≼_trans x y y' h (≼-of-≈ y y' e)) (λ h. ≼_trans x y' y h (≼-of-≈ y' y (≈-sym y y' e)))

leℚ : ℚ → ℚ → HProp {0}
unfolding ℚ /_rec₂
leℚ = /_rec₂ HProp-set orderly orderly_left orderly_right

infix 4 ◌≤ℚ◌
abbrev ◌≤ℚ◌ : ℚ → ℚ → Type 0
a ≤ℚ b = (leℚ a b).0

le_refl : (a : ℚ) → a ≤ℚ a
unfolding ℚ leℚ orderly
le_refl = /_elim_prop (λ a. a ≤ℚ a) (λ a. (leℚ a a).1) (λ x. record { across = ≤ℤ_refl (x.upper *ℤ below x) })

le_trans : (a b c : ℚ) → a ≤ℚ b → b ≤ℚ c → a ≤ℚ c
unfolding ℚ leℚ orderly
le_trans = /_elim_prop₃ (λ a b c. a ≤ℚ b → b ≤ℚ c → a ≤ℚ c) (λ a b c. Π_prop (λ _. Π_prop (λ _. (leℚ a c).1))) ≼_trans

le_antisymm : (a b : ℚ) → a ≤ℚ b → b ≤ℚ a → a ≡ b
unfolding ℚ leℚ orderly
le_antisymm = /_elim_prop₂ (λ a b. a ≤ℚ b → b ≤ℚ a → a ≡ b) (λ a b. Π_prop (λ _. Π_prop (λ _. /_set _ _)))
    (λ x y h k. eq/ x y (record { across = ≤ℤ-antisymm h.across k.across }))

le_dec : (a b : ℚ) → Dec (a ≤ℚ b)
unfolding ℚ leℚ orderly
le_dec = /_elim_prop₂ (λ a b. Dec (a ≤ℚ b)) (λ a b. Dec-prop (leℚ a b).1)
    (λ x y. by x y (≤ℤ-dec (x.upper *ℤ below y) (y.upper *ℤ below x)))
  where
    by : (x y : Fraction) → Dec ((x.upper *ℤ below y) ≤ℤ (y.upper *ℤ below x)) → Dec (x ≼ y)
    by x y (yes h) = yes (record { across = h })
    by x y (no f) = no (λ h. f h.across)

le_total : (a b : ℚ) → ¬ (a ≤ℚ b) → b ≤ℚ a
unfolding ℚ leℚ orderly
le_total = /_elim_prop₂ (λ a b. ¬ (a ≤ℚ b) → b ≤ℚ a) (λ a b. Π_prop (λ _. (leℚ b a).1))
    (λ x y f. record { across = ≤ℤ-total (λ h. f (record { across = h })) })

add_le : (a b c : ℚ) → a ≤ℚ b → a +ℚ c ≤ℚ b +ℚ c
unfolding ℚ lifted leℚ orderly ◌+ℚ◌ ◌⊕◌
add_le = /_elim_prop₃ (λ a b c. a ≤ℚ b → a +ℚ c ≤ℚ b +ℚ c) (λ a b c. Π_prop (λ _. (leℚ (a +ℚ c) (b +ℚ c)).1))
    (λ x y z h. record {
      across = rewritten integer_order
          (+ℤ-mono (z.upper *ℤ below z *ℤ (below x *ℤ below y)) (*ℤ-mono (z.lower * z.lower) h.across))
          (sym (spread Z x.upper (below x) z.upper (below z) (below y)))
          (sym (spread' Z y.upper (below y) z.upper (below z) (below x)));
    })

mul_nonneg : (a b : ℚ) → class (whole (pos 0)) ≤ℚ a → class (whole (pos 0)) ≤ℚ b → class (whole (pos 0)) ≤ℚ a *ℚ b
unfolding ℚ lifted leℚ orderly class ◌*ℚ◌ ◌⊗◌ whole over
mul_nonneg = /_elim_prop₂ (λ a b. class (whole (pos 0)) ≤ℚ a → class (whole (pos 0)) ≤ℚ b → class (whole (pos 0)) ≤ℚ a *ℚ b)
    (λ a b. Π_prop (λ _. Π_prop (λ _. (leℚ (class (whole (pos 0))) (a *ℚ b)).1)))
    (λ x y h k. record {
      across = over_one (x.upper *ℤ y.upper) (x.lower * y.lower) (*ℤ-nonneg x.upper y.upper (upper x h) (upper y k));
    })
  where
    upper : (x : Fraction) → whole (pos 0) ≼ x → pos 0 ≤ℤ x.upper
    upper x h = omega (signed, split_mul (pos 0) (below x), split_mul x.upper (pos 1), h.across)

    over_one : (a : ℤ) (p : ℕ) → pos 0 ≤ℤ a → (pos 0 *ℤ pos p) ≤ℤ (a *ℤ pos 1)
    over_one a p h = omega (signed, split_mul (pos 0) (pos p), split_mul a (pos 1))

pub rationals : Rationals
unfolding ℚ lifted class ringℚ leℚ orderly ◌+ℚ◌ ◌*ℚ◌
rationals = record {
  order = record {
    ring = ringℚ;
    ◌⊑◌ = ◌≤ℚ◌;
    le_refl = le_refl;
    le_trans = λ {a} {b} {c} h k. le_trans a b c h k;
    le_antisymm = λ {a} {b} h k. le_antisymm a b h k;
    le_dec = le_dec;
    le_total = λ {a} {b} f. le_total a b f;
    add_le = λ {a} {b} c h. add_le a b c h;
    mul_nonneg = λ {a} {b} h k. mul_nonneg a b h k;
  };
  value = class;
  every_value = /_elim_prop _ (λ q. squash₁) (λ x. ∣ (x, refl) ∣₁);
  value_zero = refl;
  value_one = refl;
  value_plus = λ x y. refl;
  value_times = λ x y. refl;
  value_eq = λ x y. (eq/ x y, effective ≈-prop ≈-equivalence x y);
  value_le = λ x y. ((λ h. h), (λ h. h));
}
