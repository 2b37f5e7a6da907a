-- A running sum of a summable row fits 64 bits: its size is at most the sizes of its entries together. So a loop may add the row up.
use mathlib.Core.Path.{◌≡◌, ◌∙◌, ap}
use mathlib.Core.List.{List}
use Prim.Native.Nat.{ℕ, suc, ◌*◌, ◌≤◌, ◌<◌}
use native.Mathlib.Nat as NL
use native.Mathlib.Omega.{arith}
use lib.IntN.{ℤ, pos, nat_abs, ◌+ℤ◌}
use lib.ListN.{length, get_or}
use mir.Syntax.{w64}
use mir.Val.{SFits, to_z, of_z}
use mir.Facts.{to_z-of_z}
use Rattle.algebra.specs.Sum.{accumulate, sumℤ}
use Rattle.algebra.proofs.Natural.{sumℕ_most}
use Rattle.algebra.proofs.Size.{size_sum, size_fits}
use Rattle.model.specs.Limits.{unit, most_totals}
use Rattle.intervals.specs.Checks.{Summable}

-- the sum of a row's entries before total n
abbrev pub sum_before : List ℤ → ℕ → ℤ
sum_before row n = sumℤ n (λ z. get_or row z (pos 0))

pub sum_small : (row : List ℤ) → Summable row → (n : ℕ) → n ≤ length row → nat_abs (sum_before row n) ≤ most_totals * (2 * unit)
sum_small row fit n le =
    let sizes = size_sum n (λ z. get_or row z (pos 0)) (λ z. 2 * unit) (λ z l. fit.small z (omega arith)) in
    let most = sumℕ_most n (2 * unit) (λ z. 2 * unit) (λ z l. NL.le_refl (2 * unit)) in
    omega (arith, fit.short, sizes, most)

pub sum_fits : (row : List ℤ) → Summable row → (n : ℕ) → n ≤ length row → SFits w64 (sum_before row n)
sum_fits row fit n le = size_fits w64 (sum_before row n) (omega (arith, sum_small row fit n le))

-- a turn of the loop, with the entry of total x
module _ (row : List ℤ) (fit : Summable row) (x : ℕ) (l : x < length row) where
  pub next_fits : SFits w64 (sum_before row (suc x))
  next_fits = sum_fits row fit (suc x) l

  module _ {sum entry : ℤ} (before : sum ≡ sum_before row x) (is : entry ≡ get_or row x (pos 0)) where
    pub next_sum : sum +ℤ to_z w64 (of_z w64 entry) ≡ sum_before row (suc x)
    unfolding accumulate
    next_sum = λ i. before i +ℤ (ap (λ (z : ℤ). to_z w64 (of_z w64 z)) is ∙ entry_held) i
      where
        entry_held : to_z w64 (of_z w64 (get_or row x (pos 0))) ≡ get_or row x (pos 0)
        entry_held = to_z-of_z (size_fits w64 (get_or row x (pos 0)) (omega (arith, fit.small x l)))

    pub next_sum_fits : SFits w64 (sum +ℤ to_z w64 (of_z w64 entry))
    next_sum_fits = rw next_sum next_fits

    pub next_sum_held : to_z w64 (of_z w64 (sum +ℤ to_z w64 (of_z w64 entry))) ≡ sum_before row (suc x)
    next_sum_held = to_z-of_z next_sum_fits ∙ next_sum
