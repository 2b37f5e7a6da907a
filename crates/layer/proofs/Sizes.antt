-- The numbers on the way to a layer's cost are small. At total x an entry, from -2U to 2U, is multiplied by d - x at most, and d is 501 at
-- most: the checker adds up the 501 products.
use mathlib.Core.Path.{◌≡◌, refl, sym, ◌∙◌, ap}
use mathlib.Core.List.{List}
use Prim.Native.Nat.{ℕ, ◌*◌, ◌-◌, ◌≤◌, ◌<◌}
use native.Mathlib.Nat as NL
use native.Mathlib.Omega.{arith}
use lib.IntN.{ℤ, pos, nat_abs, ◌*ℤ◌}
use lib.ListN.{length, get_or}
use mir.Syntax.{w64}
use mir.Val.{SFits}
use Rattle.algebra.specs.Sum.{accumulate, sumℕ, sumℤ}
use Rattle.algebra.proofs.Integer.{integers}
use Rattle.algebra.proofs.Natural.{sumℕ_longer}
use Rattle.algebra.proofs.Size.{size_sub, size_mul_le, size_sum, size_fits}
use Rattle.algebra.proofs.Sum.{sum_cong, sum_scale}
use Rattle.model.specs.Limits.{unit, most_totals}
use Rattle.intervals.specs.Checks.{Summable}
use Rattle.layer.specs.Layer.{saving, cost_by}
use Rattle.layer.specs.Room.{Fitting}
use Rattle.layer.proofs.Saving.{saving_left, saving_below}

-- the largest product at total x
abbrev largest : ℕ → ℕ
largest x = (most_totals - x) * (2 * unit)

all_largest : sumℕ most_totals largest ≡ 251502 * unit
unfolding accumulate
all_largest = refl

module _ (row : List ℤ) (c d : ℕ) where
  abbrev pub product : ℕ → ℤ
  product x = pos (saving c d x) *ℤ get_or row x (pos 0)

  -- the sum of saving times entry below total n
  abbrev pub saved_before : ℕ → ℤ
  saved_before n = sumℤ n product

  -- below the attachment it is the width times the sum of the entries
  pub before_attachment : pos (d - c) *ℤ sumℤ c (λ x. get_or row x (pos 0)) ≡ saved_before c
  before_attachment =
      sum_scale integers.semiring c (pos (d - c)) (λ x. get_or row x (pos 0))
      ∙ sum_cong integers.semiring c (λ x l. ap (λ (n : ℕ). pos n *ℤ get_or row x (pos 0)) (sym (saving_below c d x l)))

  module _ (small : Summable row) (fit : Fitting (length row) c d) where
    product_small : (x : ℕ) → x < d → nat_abs (product x) ≤ largest x
    product_small x l = size_mul_le (pos (saving c d x)) (get_or row x (pos 0)) (most_totals - x) (2 * unit)
        (omega (arith, saving_left c d x, small.short, fit.within)) (small.small x (omega (arith, fit.within)))

    sum_small : (n : ℕ) → n ≤ d → nat_abs (saved_before n) ≤ 251502 * unit
    sum_small n le =
        let sizes = size_sum n product largest (λ x l. product_small x (omega arith)) in
        let more = sumℕ_longer n most_totals largest (omega (arith, small.short, fit.within)) in
        omega (arith, sizes, more, all_largest)

    pub product_fits : (x : ℕ) → x < d → SFits w64 (product x)
    product_fits x l = size_fits w64 (product x) (omega (arith, product_small x l))

    pub sum_fits : (n : ℕ) → n ≤ d → SFits w64 (saved_before n)
    sum_fits n le = size_fits w64 (saved_before n) (omega (arith, sum_small n le))

    pub whole_fits : SFits w64 (pos ((d - c) * unit))
    whole_fits = size_fits w64 (pos ((d - c) * unit)) (omega (arith, small.short, fit.within))

    pub cost_small : nat_abs (cost_by row c d) ≤ 252003 * unit
    unfolding cost_by
    cost_small =
        omega (arith, size_sub (pos ((d - c) * unit)) (saved_before d), sum_small d (NL.le_refl d), small.short, fit.within)

    pub cost_fits : SFits w64 (cost_by row c d)
    cost_fits = size_fits w64 (cost_by row c d) (omega (arith, cost_small))
