-- ℤ of the kit as an ordered commutative ring, and the way from ℤ to `omega`: z is the difference of its part above zero and its part
-- below zero, both natural numbers, so a linear statement over ℤ is one over ℕ.
use mathlib.Core.Path.{◌≡◌, refl, sym, ap, ap₂}
use mathlib.Core.Bool.{Bool, true, false, not, cond}
use Prim.Native.Nat.{ℕ, zero, suc, ◌+◌, ◌*◌, ◌-◌, ◌≤◌, ◌<◌}
use native.Mathlib.Nat as NL
use native.Mathlib.Decide.{dec_le}
use native.Mathlib.Omega.{arith}
use borrow.Author.Tests.{le-ltb}
use lib.Dec.{T, T_prop, ltb, ltb→lt, lt→ltb, leb→le, le→leb, nltb→le}
use lib.IntN.{ℤ, pos, negsuc, neg_ℤ, nat_abs, sub_ℕ, ◌+ℤ◌, ◌*ℤ◌, +ℤ_comm, +ℤ_assoc, +ℤ_idr, +ℤ_invr, *ℤ_comm, *ℤ-zero}
use lib.Signed.{◌≤ℤ◌, ◌<ℤ◌, le_z, lt_z, ≤ℤ_refl}
use Rattle.algebra.specs.Parts.{up, down}
use Rattle.algebra.specs.Ring.{Ring}
use Rattle.algebra.specs.Order.{OrderedRing}

-- ---- order and equality, by the parts
not_below : (a b : ℕ) → a + suc b ≤ 0 → ⊥
not_below a b h = omega arith

le_split : (a b : ℤ) → T (le_z a b) → up a + down b ≤ up b + down a
le_split (pos a) (pos b) t = let h = leb→le a b t in omega arith
le_split (pos a) (negsuc b) t = absurd t
le_split (negsuc a) (pos b) t = omega arith
le_split (negsuc a) (negsuc b) t = let h = leb→le b a t in omega arith

split_le_z : (a b : ℤ) → up a + down b ≤ up b + down a → T (le_z a b)
split_le_z (pos a) (pos b) h = le→leb a b (omega arith)
split_le_z (pos a) (negsuc b) h = absurd (not_below a b (omega arith))
split_le_z (negsuc a) (pos b) h = tt
split_le_z (negsuc a) (negsuc b) h = le→leb b a (omega arith)

lt_split : (a b : ℤ) → T (lt_z a b) → up a + down b < up b + down a
lt_split (pos a) (pos b) t = let h = ltb→lt a b t in omega arith
lt_split (pos a) (negsuc b) t = absurd t
lt_split (negsuc a) (pos b) t = omega arith
lt_split (negsuc a) (negsuc b) t = let h = ltb→lt b a t in omega arith

split_lt_z : (a b : ℤ) → up a + down b < up b + down a → T (lt_z a b)
split_lt_z (pos a) (pos b) h = lt→ltb a b (omega arith)
split_lt_z (pos a) (negsuc b) h = absurd (not_below a b (omega arith))
split_lt_z (negsuc a) (pos b) h = tt
split_lt_z (negsuc a) (negsuc b) h = lt→ltb b a (omega arith)

split-≡ : (a b : ℤ) → up a + down b ≡ up b + down a → a ≡ b
split-≡ (pos a) (pos b) h = ap pos (omega arith)
split-≡ (pos a) (negsuc b) h = absurd (not_below a b (omega arith))
split-≡ (negsuc a) (pos b) h = absurd (not_below b a (omega arith))
split-≡ (negsuc a) (negsuc b) h = ap negsuc (omega arith)

pub split_le : {a b : ℤ} → a ≤ℤ b → up a + down b ≤ up b + down a
split_le {a} {b} h = le_split a b h.le

pub le_of_split : {a b : ℤ} → up a + down b ≤ up b + down a → a ≤ℤ b
le_of_split {a} {b} h = record { le = split_le_z a b h }

pub split_lt : {a b : ℤ} → a <ℤ b → up a + down b < up b + down a
split_lt {a} {b} h = lt_split a b h.lt

pub lt_of_split : {a b : ℤ} → up a + down b < up b + down a → a <ℤ b
lt_of_split {a} {b} h = record { lt = split_lt_z a b h }

pub split_eq : {a b : ℤ} → a ≡ b → up a + down b ≡ up b + down a
split_eq {a} {b} e = ap₂ ◌+◌ (ap up e) (ap down (sym e))

pub eq_of_split : {a b : ℤ} → up a + down b ≡ up b + down a → a ≡ b
eq_of_split {a} {b} h = split-≡ a b h

-- ---- the operations, by the parts
-- a difference of natural numbers, by which of the two is larger
pub subℕ_cases : (P : ℤ → Type 0) (a b : ℕ) → (a < b → P (negsuc (b - suc a))) → (b ≤ a → P (pos (a - b))) → P (sub_ℕ a b)
subℕ_cases P a b less more = by (ltb a b) (λ t. less (ltb→lt a b t)) (λ t. more (nltb→le a b t))
  where
    by : (c : Bool) → (T c → P (negsuc (b - suc a))) → (T (not c) → P (pos (a - b))) → P (cond c (negsuc (b - suc a)) (pos (a - b)))
    by true f g = f tt
    by false f g = g tt

split_subℕ : (a b : ℕ) → up (sub_ℕ a b) + b ≡ a + down (sub_ℕ a b)
split_subℕ a b = subℕ_cases (λ z. up z + b ≡ a + down z) a b (λ h. omega arith) (λ h. omega arith)

pub split_add : (a b : ℤ) → up (a +ℤ b) + (down a + down b) ≡ up a + up b + down (a +ℤ b)
split_add (pos a) (pos b) = omega arith
split_add (pos a) (negsuc b) = omega (arith, split_subℕ a (suc b))
split_add (negsuc a) (pos b) = omega (arith, split_subℕ b (suc a))
split_add (negsuc a) (negsuc b) = omega arith

neg_pos : (n : ℕ) → (up (neg_ℤ (pos n)) ≡ 0) × (down (neg_ℤ (pos n)) ≡ n)
neg_pos zero = (refl, refl)
neg_pos (suc n) = (refl, refl)

pub split_neg : (a : ℤ) → (up (neg_ℤ a) ≡ down a) × (down (neg_ℤ a) ≡ up a)
split_neg (pos n) = neg_pos n
split_neg (negsuc n) = (refl, refl)

pub split_mul : (a b : ℤ) → up (a *ℤ b) + (up a * down b + down a * up b) ≡ up a * up b + down a * down b + down (a *ℤ b)
split_mul (pos a) (pos b) = omega arith
split_mul (pos a) (negsuc b) = omega (arith, neg_pos (a * suc b))
split_mul (negsuc a) (pos b) = omega (arith, neg_pos (suc a * b))
split_mul (negsuc a) (negsuc b) = omega arith

pub split_size : (a : ℤ) → nat_abs a ≡ up a + down a
split_size (pos n) = omega arith
split_size (negsuc n) = omega arith

-- `omega signed` reads orders and equations over ℤ; the sums and products in them are listed: `omega (signed, split_add a b)`
pub ruleset signed = (arith, split_le, split_lt, split_eq, le_of_split, lt_of_split, eq_of_split)

-- what is above zero at all is at least 1
pub up_least : (z : ℤ) → 1 ≤ up z → pos 1 ≤ℤ z
up_least (pos n) h = omega signed
up_least (negsuc n) h = absurd (NL.not-suc-le-zero h)

-- natural numbers keep their order
pub pos_mono : {m n : ℕ} → m ≤ n → pos m ≤ℤ pos n
pos_mono h = omega signed

pub of_pos : {m n : ℕ} → pos m ≤ℤ pos n → m ≤ n
of_pos h = omega signed

-- ---- the ring
scaled : {m n : ℕ} (k : ℕ) → m ≡ n → m * k ≡ n * k
scaled k e = ap (λ (x : ℕ). x * k) e

pub *ℤ-assoc : (a b c : ℤ) → a *ℤ b *ℤ c ≡ a *ℤ (b *ℤ c)
*ℤ-assoc a b c = omega (
  signed,
  split_mul (a *ℤ b) c,
  split_mul a (b *ℤ c),
  scaled (up c) (split_mul a b),
  scaled (down c) (split_mul a b),
  scaled (up a) (split_mul b c),
  scaled (down a) (split_mul b c),
)

pub *ℤ-+ℤ : (a b c : ℤ) → a *ℤ (b +ℤ c) ≡ a *ℤ b +ℤ a *ℤ c
*ℤ-+ℤ a b c = omega (
  signed,
  split_mul a (b +ℤ c),
  split_mul a b,
  split_mul a c,
  split_add (a *ℤ b) (a *ℤ c),
  scaled (up a) (split_add b c),
  scaled (down a) (split_add b c),
)

abbrev pub integers : Ring
integers = record {
  semiring = record {
    carrier = ℤ;
    𝟘 = pos 0;
    𝟙 = pos 1;
    ◌⊹◌ = ◌+ℤ◌;
    ◌·◌ = ◌*ℤ◌;
    add_comm = +ℤ_comm;
    add_assoc = +ℤ_assoc;
    add_zero = +ℤ_idr;
    mul_comm = *ℤ_comm;
    mul_assoc = *ℤ-assoc;
    mul_one = λ a. omega (signed, split_mul a (pos 1));
    mul_zero = *ℤ-zero;
    mul_add = *ℤ-+ℤ;
  };
  neg = neg_ℤ;
  add_neg = +ℤ_invr;
}

-- ---- the order
pub ≤ℤ-trans : {a b c : ℤ} → a ≤ℤ b → b ≤ℤ c → a ≤ℤ c
≤ℤ-trans h k = omega signed

pub ≤ℤ-antisymm : {a b : ℤ} → a ≤ℤ b → b ≤ℤ a → a ≡ b
≤ℤ-antisymm h k = omega signed

by_le_z : (a b : ℤ) (t : Bool) → le_z a b ≡ t → Dec (a ≤ℤ b)
by_le_z a b true e = yes (record { le = rw e tt })
by_le_z a b false e = no (λ h. rw e at h.le)

pub ≤ℤ-dec : (a b : ℤ) → Dec (a ≤ℤ b)
≤ℤ-dec a b = by_le_z a b (le_z a b) refl

-- the code's test, where that says no; `lt_z_no` of the kit is the converse
pub ≤ℤ-ltZ : (a b : ℤ) → a ≤ℤ b → lt_z b a ≡ false
≤ℤ-ltZ (pos a) (pos b) h = le-ltb b a (leb→le a b h.le)
≤ℤ-ltZ (pos a) (negsuc b) h = absurd h.le
≤ℤ-ltZ (negsuc a) (pos b) h = refl
≤ℤ-ltZ (negsuc a) (negsuc b) h = le-ltb a b (leb→le b a h.le)

pub ≤ℤ-total : {a b : ℤ} → ¬ (a ≤ℤ b) → b ≤ℤ a
≤ℤ-total {a} {b} f = by (dec_le (up a + down b) (up b + down a))
  where
    by : Dec (up a + down b ≤ up b + down a) → b ≤ℤ a
    by (yes h) = absurd (f (le_of_split h))
    by (no h) = omega signed

pub ≤ℤ_prop : (a b : ℤ) → IsProp (a ≤ℤ b)
≤ℤ_prop a b h k = λ i. record { le = T_prop (le_z a b) h.le k.le i }

pub +ℤ-mono : {a b : ℤ} (c : ℤ) → a ≤ℤ b → (a +ℤ c) ≤ℤ (b +ℤ c)
+ℤ-mono {a} {b} c h = omega (signed, split_add a c, split_add b c)

pub *ℤ-nonneg : (a b : ℤ) → pos 0 ≤ℤ a → pos 0 ≤ℤ b → pos 0 ≤ℤ (a *ℤ b)
*ℤ-nonneg (pos a) (pos b) h k = omega (signed, split_mul (pos a) (pos b))
*ℤ-nonneg (pos a) (negsuc b) h k = absurd k.le
*ℤ-nonneg (negsuc a) b h k = absurd h.le

abbrev pub integer_order : OrderedRing
integer_order = record {
  ring = integers;
  ◌⊑◌ = ◌≤ℤ◌;
  le_refl = ≤ℤ_refl;
  le_trans = ≤ℤ-trans;
  le_antisymm = ≤ℤ-antisymm;
  le_dec = ≤ℤ-dec;
  le_total = ≤ℤ-total;
  add_le = +ℤ-mono;
  mul_nonneg = λ {a} {b} h k. *ℤ-nonneg a b h k;
}

-- ---- factors that are natural numbers
pub *ℤ-mono : {a b : ℤ} (n : ℕ) → a ≤ℤ b → (a *ℤ pos n) ≤ℤ (b *ℤ pos n)
*ℤ-mono {a} {b} n h = omega (signed, split_mul a (pos n), split_mul b (pos n), NL.mul-le-mul_right n (split_le h))

pub *ℤ-cancel-le : {a b : ℤ} (n : ℕ) → 1 ≤ n → (a *ℤ pos n) ≤ℤ (b *ℤ pos n) → a ≤ℤ b
*ℤ-cancel-le {a} {b} n l h = le_of_split (NL.le_of_mul-le-mul_right {k = n} (omega (signed, split_mul a (pos n), split_mul b (pos n))) l)
