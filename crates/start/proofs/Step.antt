-- One step on whole numbers from 0 to U: the result is from 0 to U again, its high is no larger, it is wider by at most one where the
-- factor is one number, and its high stays at least 1 where the factor is not 0. Each follows from the quotients' bounds, over ℕ.
use mathlib.Core.Path.{◌≡◌, refl}
use Prim.Native.Nat.{ℕ, zero, suc, ◌+◌, ◌*◌, ◌-◌, ◌/◌, ◌≤◌, ◌<◌, zero-le}
use native.Mathlib.Nat as NL
use native.Mathlib.Omega.{arith}
use lib.IntN.{ℤ, pos, negsuc, ◌+ℤ◌}
use lib.Signed.{◌≤ℤ◌}
use Rattle.algebra.proofs.Integer.{pos_mono, of_pos}
use Rattle.model.specs.Limits.{unit}
use Rattle.outward.specs.declared.Interval.{Interval}
use Rattle.outward.specs.Division.{floor_div}
use Rattle.outward.proofs.Division.{ceilℕ, ceil_pos, ceilℕ_is, same_ends}
use Rattle.start.specs.declared.scale.Factor.{Factor}
use Rattle.start.specs.Step.{times, repeated, InUnit}
use Rattle.start.specs.Room.{Proper}

-- ---- one step
pub record Stepped (factor : Factor) (ends : Interval) : Type 0 where
  pub in_unit : InUnit (times factor ends)
  pub shrinks : (times factor ends).high ≤ℤ ends.high
  -- high - low grows by at most 1, where the factor is one number
  pub widens : factor.low ≡ factor.high → ((times factor ends).high +ℤ ends.low) ≤ℤ ((times factor ends).low +ℤ ends.high +ℤ pos 1)
  pub stays : 1 ≤ factor.high → pos 1 ≤ℤ ends.high → pos 1 ≤ℤ (times factor ends).high

-- x times the factor's low over its divisor is p, rounded down, and y times its high q, rounded up
pub record Quotients (factor : Factor) (x y p q : ℕ) : Type 0 where
  pub p_le : factor.divisor * p ≤ x * factor.low
  pub p_gt : x * factor.low < factor.divisor * p + factor.divisor
  pub q_ge : y * factor.high ≤ factor.divisor * q
  pub q_lt : factor.divisor * q < y * factor.high + factor.divisor

module _ (factor : Factor) (proper : Proper factor) where
  abbrev a : ℕ
  a = factor.low

  abbrev b : ℕ
  b = factor.high

  abbrev d : ℕ
  d = factor.divisor

  module _ {x y p q : ℕ} (xy : x ≤ y) (k : Quotients factor x y p q) where
    ordered : p ≤ q
    ordered = NL.le_of_mul-le-mul_left {k = d} (omega (arith, NL.mul-le-mul xy proper.in_order)) proper.divisor_pos

    smaller : q ≤ y
    smaller = below (NL.lt_of_mul-lt-mul_left d (omega (arith, NL.mul-le-mul_left y proper.at_most_one)))
      where
        below : q < y + 1 → q ≤ y
        below h = omega arith

    -- d (q - p) < (y - x) b + 2 d ≤ (y - x) d + 2 d, where a is b
    wider : a ≡ b → q + x ≤ p + y + 1
    wider e = below (NL.lt_of_mul-lt-mul_left d (scaled (rw e at k.p_gt)))
      where
        apart : y ≡ x + (y - x)
        apart = omega arith

        crossed : (m : ℕ) → (x + m) * b + x * d ≤ (x + m) * d + x * b
        crossed m = omega (arith, NL.mul-le-mul_left m proper.at_most_one)

        spread : y * b + x * d ≤ y * d + x * b
        spread = rw apart (crossed (y - x))

        scaled : x * b < d * p + d → d * (q + x) < d * (p + y + 2)
        scaled h = omega (arith, spread)

        below : q + x < p + y + 2 → q + x ≤ p + y + 1
        below h = omega arith

    positive : 1 ≤ b → 1 ≤ y → 1 ≤ q
    positive h l = by q refl
      where
        none : 1 ≤ y * b → y * b ≤ d * 0 → ⊥
        none m n = omega arith

        by : (n : ℕ) → q ≡ n → 1 ≤ n
        by (suc n) e = omega arith
        by zero e = absurd (none (NL.mul-pos l h) (rw e at k.q_ge))

  -- what a step makes of x and y
  abbrev pub lower : ℕ → ℕ
  lower x = x * a / d

  abbrev pub upper : ℕ → ℕ
  upper y = ceilℕ (y * b) d

  pub quotients : (x y : ℕ) → Quotients factor x y (lower x) (upper y)
  quotients x y = record {
    p_le = NL.mul-div-le (x * a) d;
    p_gt = omega (arith, NL.lt-mul-div-succ (x * a) proper.divisor_pos);
    q_ge = (ceilℕ_is (y * b) d proper.divisor_pos).0;
    q_lt = (ceilℕ_is (y * b) d proper.divisor_pos).1;
  }

  pub times_pos : (x y : ℕ) → times factor (record { low = pos x; high = pos y }) ≡ record { low = pos (lower x); high = pos (upper y) }
  unfolding times floor_div
  times_pos x y = same_ends refl (ceil_pos (y * b) d)

  stepped_pos : (x y : ℕ) → x ≤ y → y ≤ unit → Stepped factor (record { low = pos x; high = pos y })
  stepped_pos x y xy yu =
      let k = quotients x y in
      let e = times_pos x y in
      record {
        in_unit = rw e (record {
          nonneg = pos_mono zero-le;
          in_order = pos_mono (ordered xy k);
          at_most = pos_mono (NL.le_trans (smaller xy k) yu);
        });
        shrinks = rw e (pos_mono (smaller xy k));
        widens = λ s. rw e (pos_mono (wider xy k s));
        stays = λ h l. rw e (pos_mono (positive xy k h (of_pos l)));
      }

  pub stepped : (ends : Interval) → InUnit ends → Stepped factor ends
  stepped ends u = by ends.low ends.high u
    where
      by : (l h : ℤ) → InUnit (record { low = l; high = h }) → Stepped factor (record { low = l; high = h })
      by (pos x) (pos y) u = stepped_pos x y (of_pos u.in_order) (of_pos u.at_most)
      by (pos x) (negsuc y) u = absurd u.in_order.le
      by (negsuc x) h u = absurd u.nonneg.le

  -- ---- many steps
  pub repeated_in_unit : (n : ℕ) (ends : Interval) → InUnit ends → InUnit (repeated factor n ends)
  unfolding repeated
  repeated_in_unit zero ends u = u
  repeated_in_unit (suc n) ends u = (stepped (repeated factor n ends) (repeated_in_unit n ends u)).in_unit

  pub repeated_stays : 1 ≤ factor.high → (n : ℕ) (ends : Interval) → InUnit ends → pos 1 ≤ℤ ends.high
      → pos 1 ≤ℤ (repeated factor n ends).high
  unfolding repeated
  repeated_stays h zero ends u l = l
  repeated_stays h (suc n) ends u l = (stepped (repeated factor n ends) (repeated_in_unit n ends u)).stays h (repeated_stays h n ends u l)
