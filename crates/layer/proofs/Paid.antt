-- What is paid is (d - c) times U less the sum of saving times amount over x below d, since payment and saving are d - c together and
-- nothing is saved from d on (`all_paid`). Savings are not negative, so amounts above the lows leave at most the high, and those below the
-- highs at least the low (`less_left`).
use mathlib.Core.Path.{◌≡◌, sym, ◌∙◌, ap, ap₂}
use mathlib.Core.List.{List, [], ◌∷◌}
use Prim.Native.Nat.{ℕ, ◌*◌, ◌-◌, ◌≤◌, ◌<◌}
use native.Mathlib.Omega.{arith}
use lib.IntN.{ℤ, pos, neg_ℤ, ◌+ℤ◌, ◌*ℤ◌}
use lib.Signed.{◌≤ℤ◌}
use lib.ListN.{length, get_or}
use Rattle.algebra.specs.Semiring.{Semiring, nat}
use Rattle.algebra.specs.Ring.{int}
use Rattle.algebra.specs.Order.{OrderedRing}
use Rattle.algebra.specs.Sum.{sum, sumℤ}
use Rattle.algebra.specs.Solver.{var, ◌:+◌, :-◌}
use Rattle.algebra.specs.Fraction.{Fraction, whole, ◌⊗◌, ◌≼◌}
use Rattle.algebra.proofs.Integer.{integer_order, signed}
use Rattle.algebra.proofs.Order.{rewritten, add_mono, neg_mono, mul_mono, sum_mono, nat_nonneg}
use Rattle.algebra.proofs.Ring.{int_pos, int_add, int_neg, int_mul}
use Rattle.algebra.proofs.Semiring.{zero_mul, add_mul, nat_zero, nat_add, nat_mul}
use Rattle.algebra.proofs.Solver.{solve}
use Rattle.algebra.proofs.Sum.{sum_related, sum_cong, sum_add, sum_scale, sum_cut}
use Rattle.algebra.proofs.Value.{order, ℚ, value, value_eq, value_le, le_of_value, value_times, value_int, value_nat, value_accumulate}
use Rattle.model.specs.Limits.{unit}
use Rattle.intervals.specs.Amounts.{entries}
use Rattle.layer.specs.Layer.{saving, payment, cost_by}
use Rattle.layer.specs.Enclosed.{amount_at, paid, Complete, Amounts}
use Rattle.layer.proofs.Saving.{saving_none, paid_saved}

-- ---- in any ordered ring
module _ (O : OrderedRing) where
  open O use {◌⊑◌}
  open O.ring use {neg}
  open O.ring.semiring use {carrier as A, 𝟘, ◌⊹◌, ◌·◌}

  infix 4 ◌⊑◌
  infixl 6 ◌⊹◌
  infixl 7 ◌·◌
  abbrev S : Semiring
  S = O.ring.semiring

  -- the larger what the savings multiply, the less is left of k
  less_left : (k : A) (n : ℕ) (s f g : ℕ → A) → ((x : ℕ) → 𝟘 ⊑ s x) → ((x : ℕ) → x < n → f x ⊑ g x)
      → k ⊹ neg (sum S n (λ x. s x · g x)) ⊑ k ⊹ neg (sum S n (λ x. s x · f x))
  less_left k n s f g nonneg le =
      add_mono O (O.le_refl k) (neg_mono O (sum_mono O n (λ x l. mul_mono O (s x) (nonneg x) (le x l))))

  -- the sum of payments is k times u less that of savings
  all_paid : (n d : ℕ) → d ≤ n → (p s g : ℕ → A) (k u : A) → ((x : ℕ) → p x ⊹ s x ≡ k) → ((x : ℕ) → d ≤ x → s x ≡ 𝟘)
      → sum S n g ≡ u → sum S n (λ x. p x · g x) ≡ k · u ⊹ neg (sum S d (λ x. s x · g x))
  all_paid n d le p s g k u together none total =
      alone (sum S n (λ x. p x · g x)) (sum S n (λ x. s x · g x))
      ∙ ap₂ (λ (a b : A). a ⊹ neg b) both cut
    where
      alone : (a b : A) → a ≡ a ⊹ b ⊹ neg b
      alone a b = solve O.ring (a ∷ b ∷ []) (var 0) (var 0 :+ var 1 :+ :- var 1) tt

      both : sum S n (λ x. p x · g x) ⊹ sum S n (λ x. s x · g x) ≡ k · u
      both =
          sym (sum_add S n (λ x. p x · g x) (λ x. s x · g x))
          ∙ sum_cong S n (λ x l. sym (add_mul S (p x) (s x) (g x)) ∙ ap (λ (a : A). a · g x) (together x))
          ∙ sym (sum_scale S n k g) ∙ ap (λ (a : A). k · a) total

      zero_times : (x : ℕ) → d ≤ x → s x · g x ≡ 𝟘
      zero_times x l = ap (λ (a : A). a · g x) (none x l) ∙ zero_mul S (g x)

      cut : sum S n (λ x. s x · g x) ≡ sum S d (λ x. s x · g x)
      cut = sum_cut S n d (λ x. s x · g x) zero_times ∙ ap (λ (m : ℕ). sum S m (λ x. s x · g x)) (omega arith)

-- ---- the costs and what is paid, as rational numbers
open order use {◌⊑◌}
open order.ring use {neg}
open ℚ use {carrier as A, 𝟘, 𝟙, ◌⊹◌, ◌·◌}

infix 4 ◌⊑◌
infixl 6 ◌⊹◌
infixl 7 ◌·◌
module _ (c d : ℕ) where
  abbrev saved : ℕ → A
  saved x = nat ℚ (saving c d x)

  -- what is left of (d - c) times U
  abbrev left : (ℕ → A) → A
  left f = nat ℚ (d - c) · nat ℚ unit ⊹ neg (sum ℚ d (λ x. saved x · f x))

  value_cost : (row : List ℤ) → value (whole (cost_by row c d)) ≡ left (λ x. value (entries row x))
  unfolding cost_by
  value_cost row =
      value_int (pos ((d - c) * unit) +ℤ neg_ℤ (sumℤ d product))
      ∙ int_add order.ring (pos ((d - c) * unit)) (neg_ℤ (sumℤ d product))
      ∙ ap₂ ◌⊹◌ (int_pos order.ring ((d - c) * unit) ∙ nat_mul ℚ (d - c) unit)
      (int_neg order.ring (sumℤ d product) ∙ ap neg sums)
    where
      product : ℕ → ℤ
      product x = pos (saving c d x) *ℤ get_or row x (pos 0)

      sums : int order.ring (sumℤ d product) ≡ sum ℚ d (λ x. saved x · value (entries row x))
      sums = sum_related (λ (z : ℤ) (v : A). int order.ring z ≡ v) (pos 0) ◌+ℤ◌ 𝟘 ◌⊹◌ (int_pos order.ring 0 ∙ nat_zero ℚ)
          (λ a b u v p q. int_add order.ring a b ∙ ap₂ ◌⊹◌ p q) d product (λ x. saved x · value (entries row x))
          (λ x l. int_mul order.ring (pos (saving c d x)) (get_or row x (pos 0))
          ∙ ap₂ ◌·◌ (int_pos order.ring (saving c d x)) (sym (value_int (get_or row x (pos 0)))))

  module _ (g : List Fraction) where
    abbrev amounts : ℕ → A
    amounts x = value (amount_at g x)

    value_paid : Complete d g → value (paid c d g) ≡ left amounts
    value_paid complete =
        value_accumulate (length g) (λ x. whole (pos (payment c d x)) ⊗ amount_at g x)
        ∙ sum_cong ℚ (length g) (λ x k. value_times (whole (pos (payment c d x))) (amount_at g x)
        ∙ ap (λ (v : A). v · amounts x) (value_nat (payment c d x)))
        ∙ all_paid order (length g) d complete.enough (λ x. nat ℚ (payment c d x)) saved amounts (nat ℚ (d - c)) (nat ℚ unit)
        (λ x. sym (nat_add ℚ (payment c d x) (saving c d x)) ∙ ap (nat ℚ) (paid_saved c d x))
        (λ x k. ap (nat ℚ) (saving_none c d x k) ∙ nat_zero ℚ)
        (sym (value_accumulate (length g) (amount_at g)) ∙ value_eq complete.sums_to ∙ value_nat unit)

    module _ (low high : List ℤ) (ok : Amounts low high d g) where
      pub least : whole (cost_by high c d) ≼ paid c d g
      least = le_of_value (rewritten order
          (less_left order (nat ℚ (d - c) · nat ℚ unit) d saved amounts (λ x. value (entries high x)) (λ x. nat_nonneg order (saving c d x))
          (λ x k. value_le (ok.below_high x k)))
          (sym (value_cost high)) (sym (value_paid ok.complete)))

      pub most : paid c d g ≼ whole (cost_by low c d)
      most = le_of_value (rewritten order
          (less_left order (nat ℚ (d - c) · nat ℚ unit) d saved (λ x. value (entries low x)) amounts (λ x. nat_nonneg order (saving c d x))
          (λ x k. value_le (ok.above_low x k)))
          (sym (value_paid ok.complete)) (sym (value_cost low)))

  pub in_order : (low high : List ℤ) → ((x : ℕ) → x < d → get_or low x (pos 0) ≤ℤ get_or high x (pos 0)) → cost_by high c d ≤ℤ cost_by low c d
  unfolding cost_by
  in_order low high le = less_left integer_order (pos ((d - c) * unit)) d (λ x. pos (saving c d x)) (λ x. get_or low x (pos 0))
      (λ x. get_or high x (pos 0)) (λ x. not_negative (saving c d x)) le
    where
      not_negative : (n : ℕ) → pos 0 ≤ℤ pos n
      not_negative n = omega signed
