-- The floor by the division with remainder of natural numbers, at each sign; the ceiling is the floor with the signs turned. By 1 nothing
-- is rounded. Of natural numbers the ceiling is one too; and an interval is known by its two ends.
use mathlib.Core.Path.{◌≡◌, refl, sym, ◌∙◌, ap}
use Prim.Native.Nat.{ℕ, zero, suc, ◌+◌, ◌*◌, ◌/◌, ◌%◌, ◌≤◌, ◌<◌, zero-le, suc-le-suc}
use native.Mathlib.Nat.{mul-div-le, lt-mul-div-succ, div-le_self, div-one, zero-div, div-add-mod}
use native.Mathlib.Nat.{div-add-mod', div-eq_of_lt-le, mod-lt, mul-mod_right}
use native.Mathlib.Omega.{arith}
use borrow.Author.Tests.{eqb-true, eq-eqb}
use lib.Dec.{le→leb}
use lib.IntN.{ℤ, pos, negsuc, neg_ℤ, nat_abs, ◌+ℤ◌, ◌*ℤ◌, neg_ℤ-neg_ℤ}
use lib.Signed.{◌≤ℤ◌, ◌<ℤ◌, le_z_yes}
use Rattle.algebra.proofs.Integer.{integers, signed, split_add, split_mul, split_neg}
use Rattle.algebra.proofs.Ring.{mul_neg}
use Rattle.algebra.proofs.Size.{size_neg, size_mul}
use Rattle.outward.specs.declared.Interval.{Interval}
use Rattle.outward.specs.Division.{floor_div, ceil_div, divides, FloorIs, CeilIs, DividesIs, DividesMultiple}

pub floor_is : FloorIs
unfolding floor_div
floor_is (pos a) n l = (omega (signed, mul-div-le a n), omega (signed, lt-mul-div-succ a l))
floor_is (negsuc a) n l =
    let product = split_mul (pos n) (negsuc (a / n)) in (
      omega (signed, product, lt-mul-div-succ a l),
      omega (signed, product, split_add (pos n *ℤ negsuc (a / n)) (pos n), mul-div-le a n),
    )

pub ceil_is : CeilIs
unfolding ceil_div
ceil_is z n l = turned (floor_div (neg_ℤ z) n) (floor_is (neg_ℤ z) n l)
  where
    turned : (q : ℤ) → ((pos n *ℤ q) ≤ℤ neg_ℤ z) × (neg_ℤ z <ℤ (pos n *ℤ q +ℤ pos n))
        → (z ≤ℤ (pos n *ℤ neg_ℤ q)) × ((pos n *ℤ neg_ℤ q) <ℤ (z +ℤ pos n))
    turned q (h, k) = rw (mul_neg integers (pos n) q) (
      omega (signed, split_neg z, split_neg (pos n *ℤ q)),
      omega (signed, split_neg z, split_neg (pos n *ℤ q), split_add (pos n *ℤ q) (pos n), split_add z (pos n)),
    )

-- ---- the quotient of the next natural number: the same, or one more where nothing is left over
pub next_rest : (a n : ℕ) → 1 ≤ n → 0 < suc a % n → suc a / n ≡ a / n
next_rest a n l h =
    let whole = div-add-mod' (suc a) n in
    sym (div-eq_of_lt-le n (omega arith) (omega (arith, mod-lt (suc a) l)))

pub next_whole : (a n : ℕ) → 1 ≤ n → suc a % n ≡ 0 → suc a / n ≡ suc (a / n)
next_whole a n l e = by (suc a / n) (div-add-mod' (suc a) n)
  where
    by : (q : ℕ) → q * n + suc a % n ≡ suc a → q ≡ suc (a / n)
    by zero h = absurd (omega (arith, e))
    by (suc q) h = ap suc (sym (div-eq_of_lt-le n (omega (arith, e)) (omega (arith, e))))

-- ---- without a remainder floor and ceiling are the quotient
floor_whole : (z : ℤ) (n : ℕ) → 1 ≤ n → nat_abs z % n ≡ 0 → pos n *ℤ floor_div z n ≡ z
unfolding floor_div
floor_whole (pos a) n l e = ap pos (omega (arith, div-add-mod a n, e))
floor_whole (negsuc a) n l e =
    let next = next_whole a n l e in
    omega (signed, split_mul (pos n) (negsuc (a / n)), div-add-mod (suc a) n, e, ap (λ (q : ℕ). n * q) next)

pub divides_is : DividesIs
unfolding divides ceil_div
divides_is z n l t =
    let e = eqb-true (nat_abs z % n) 0 t in (
      floor_whole z n l e,
      mul_neg integers (pos n) (floor_div (neg_ℤ z) n)
          ∙ ap neg_ℤ (floor_whole (neg_ℤ z) n l (rw (size_neg z) e))
          ∙ neg_ℤ-neg_ℤ z,
    )

pub divides_multiple : DividesMultiple
unfolding divides
divides_multiple q z n e = rw (← e, size_mul (pos n) q) (eq-eqb (n * nat_abs q % n) 0 (mul-mod_right n (nat_abs q)))

-- neither is larger in size than what is divided
pub floor_size : (z : ℤ) (n : ℕ) → nat_abs (floor_div z n) ≤ nat_abs z
unfolding floor_div
floor_size (pos a) n = div-le_self a n
floor_size (negsuc a) n = suc-le-suc (div-le_self a n)

pub ceil_size : (z : ℤ) (n : ℕ) → nat_abs (ceil_div z n) ≤ nat_abs z
unfolding ceil_div
ceil_size z n = rw (size_neg (floor_div (neg_ℤ z) n), ← size_neg z) (floor_size (neg_ℤ z) n)

-- the ceiling of what is zero or more is zero or more
pub ceil_nonneg : (z : ℤ) (n : ℕ) → pos 0 ≤ℤ z → pos 0 ≤ℤ ceil_div z n
unfolding ceil_div floor_div
ceil_nonneg (pos zero) n h = rw (zero-div n) h
ceil_nonneg (pos (suc a)) n h = le_z_yes (le→leb 0 (suc (a / n)) zero-le)
ceil_nonneg (negsuc a) n h = absurd h.le

pub floor_one : (z : ℤ) → floor_div z 1 ≡ z
unfolding floor_div
floor_one (pos a) = ap pos (div-one a)
floor_one (negsuc a) = ap negsuc (div-one a)

pub ceil_one : (z : ℤ) → ceil_div z 1 ≡ z
unfolding ceil_div
ceil_one z = ap neg_ℤ (floor_one (neg_ℤ z)) ∙ neg_ℤ-neg_ℤ z

-- ---- the ceiling of natural numbers
unfoldable pub ceilℕ : ℕ → ℕ → ℕ
ceilℕ zero n = 0
ceilℕ (suc a) n = suc (a / n)

pub ceil_pos : (a n : ℕ) → ceil_div (pos a) n ≡ pos (ceilℕ a n)
unfolding ceil_div floor_div ceilℕ
ceil_pos zero n = rw (zero-div n)
ceil_pos (suc a) n = refl

pub ceilℕ_is : (a n : ℕ) → 1 ≤ n → (a ≤ n * ceilℕ a n) × (n * ceilℕ a n < a + n)
ceilℕ_is a n l = let (h, k) = rw (ceil_pos a n) at (ceil_is (pos a) n l) in (omega signed, omega signed)

-- ---- an interval, end by end
pub same_ends : {l l' h h' : ℤ} → l ≡ l' → h ≡ h' → ◌≡◌ {A = Interval} (record { low = l; high = h }) (record { low = l'; high = h' })
same_ends p q = λ i. record { low = p i; high = q i }
