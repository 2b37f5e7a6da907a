-- The amounts below d and what they leave of U are a list that sums to U.
use mathlib.Core.Path.{◌≡◌, sym, ◌∙◌, ap, ap₂}
use mathlib.Core.List.{List, [], ◌∷◌}
use Prim.Native.Nat.{ℕ, suc, ◌<◌}
use native.Mathlib.Omega.{arith}
use lib.IntN.{pos, neg_ℤ}
use lib.ListN.{length, length-append, get_or-append}
use lib.Seq.{get_or_at}
use Rattle.algebra.specs.Slice.{listed}
use Rattle.algebra.specs.Sum.{accumulate, sum}
use Rattle.algebra.specs.Solver.{var, unit as one, ◌:+◌, ◌:*◌, :-◌}
use Rattle.algebra.specs.Fraction.{Fraction, whole, ◌⊗◌}
use Rattle.algebra.proofs.Ring.{int_neg}
use Rattle.algebra.proofs.Slice.{listed_length, listed_at}
use Rattle.algebra.proofs.Solver.{solve}
use Rattle.algebra.proofs.Sum.{sum_cong}
use Rattle.algebra.proofs.Value.{order, ℚ, value, eq_of_value, value_one, value_plus, value_times, value_int, value_accumulate}
use Rattle.model.specs.Limits.{unit}
use Rattle.layer.specs.Enclosed.{amount_at, sum_below, SumsToUnit, rest, with_rest, AlwaysContinues}
open order.ring use {neg}
open ℚ use {carrier as A, 𝟙, ◌⊹◌, ◌·◌}

infixl 6 ◌⊹◌
infixl 7 ◌·◌
module _ (amount : ℕ → Fraction) (d : ℕ) where
  abbrev g : List Fraction
  g = with_rest d amount

  abbrev total : A
  total = sum ℚ d (λ x. value (amount x))

  one_more : length g ≡ suc d
  one_more = simp length-append (omega (arith, listed_length amount d))

  at_first : (x : ℕ) → x < d → amount_at g x ≡ amount x
  at_first x l =
      get_or-append (listed amount d) (rest d amount ∷ []) (whole (pos 0)) x (rw (listed_length amount d) l)
      ∙ listed_at amount d x (whole (pos 0)) l

  at_last : amount_at g d ≡ rest d amount
  at_last = get_or_at (listed amount d) (rest d amount) [] (whole (pos 0)) d (listed_length amount d)

  -- U less the sum
  value_rest : value (rest d amount) ≡ value (whole (pos unit)) ⊹ neg 𝟙 · total
  value_rest =
      value_plus (whole (pos unit)) (whole (neg_ℤ (pos 1)) ⊗ sum_below d amount)
      ∙ ap (λ (v : A). value (whole (pos unit)) ⊹ v)
      (value_times (whole (neg_ℤ (pos 1))) (sum_below d amount) ∙ ap₂ ◌·◌ minus_one (value_accumulate d amount))
    where
      minus_one : value (whole (neg_ℤ (pos 1))) ≡ neg 𝟙
      minus_one = value_int (neg_ℤ (pos 1)) ∙ int_neg order.ring (pos 1) ∙ ap neg (sym (value_int (pos 1)) ∙ value_one)

  sums_to : SumsToUnit g
  unfolding accumulate
  sums_to = eq_of_value (
      value_accumulate (length g) (amount_at g)
      ∙ ap (λ (n : ℕ). sum ℚ n (λ x. value (amount_at g x))) one_more
      ∙ ap₂ ◌⊹◌ (sum_cong ℚ d (λ x l. ap value (at_first x l))) (ap value at_last ∙ value_rest)
      ∙ comes_off total (value (whole (pos unit))))
    where
      comes_off : (s u : A) → s ⊹ (u ⊹ neg 𝟙 · s) ≡ u
      comes_off s u = solve order.ring (s ∷ u ∷ []) (var 0 :+ (var 1 :+ :- one :* var 0)) (var 1) tt

pub always_continues : AlwaysContinues
always_continues amount d = record {
  complete = record { enough = omega (arith, one_more amount d); sums_to = sums_to amount d };
  begins = λ x l. eq_of_value (ap value (at_first amount d x (omega arith)));
}
