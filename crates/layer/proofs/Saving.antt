-- Savings and payments of one layer, by where the total lies.
use mathlib.Core.Path.{◌≡◌, refl, ◌∙◌}
use mathlib.Core.Bool.{Bool, true, false, cond}
use Prim.Native.Nat.{ℕ, ◌+◌, ◌-◌, ◌≤◌, ◌<◌}
use native.Mathlib.Omega.{arith}
use borrow.Author.Tests.{ltb-true, ltb-false}
use lib.Dec.{ltb}
use Rattle.layer.specs.Layer.{saving, payment, PaysAbove}

-- a total below c, one from c to d, and one beyond
by_total : (P : ℕ → Type 0) (c d x : ℕ) {i j k : ℕ} → (x < c → P i) → (c ≤ x → d < x → P j) → (c ≤ x → x ≤ d → P k)
    → P (cond (ltb x c) i (cond (ltb d x) j k))
by_total P c d x {i} {j} {k} below beyond within = by (ltb x c) (ltb d x) refl refl
  where
    by : (s t : Bool) → ltb x c ≡ s → ltb d x ≡ t → P (cond s i (cond t j k))
    by true t e h = below (ltb-true x c e)
    by false true e h = beyond (ltb-false x c e) (ltb-true d x h)
    by false false e h = within (ltb-false x c e) (ltb-false d x h)

-- a layer saves no more than its width, nor than what the total leaves to its limit
pub saving_width : (c d x : ℕ) → saving c d x ≤ d - c
unfolding saving
saving_width c d x = by_total (λ s. s ≤ d - c) c d x (λ h. omega arith) (λ h k. omega arith) (λ h k. omega arith)

pub saving_left : (c d x : ℕ) → saving c d x ≤ d - x
unfolding saving
saving_left c d x = by_total (λ s. s ≤ d - x) c d x (λ h. omega arith) (λ h k. omega arith) (λ h k. omega arith)

-- and so nothing from its limit on
pub saving_none : (c d x : ℕ) → d ≤ x → saving c d x ≡ 0
saving_none c d x le = omega (arith, saving_left c d x)

-- in one case: what the total leaves to the limit, less what it leaves to the attachment
saving_is : (c d x : ℕ) → saving c d x ≡ (d - x) - (c - x)
unfolding saving
saving_is c d x = by_total (λ s. s ≡ (d - x) - (c - x)) c d x (λ h. omega arith) (λ h k. omega arith) (λ h k. omega arith)

-- so it is d - c below c, and d - x from there to d
pub saving_below : (c d x : ℕ) → x < c → saving c d x ≡ d - c
saving_below c d x l = saving_is c d x ∙ omega arith

pub saving_from : (c d x : ℕ) → c ≤ x → saving c d x ≡ d - x
saving_from c d x l = saving_is c d x ∙ omega arith

-- and layers that follow each other save together what the one from c to e saves
pub saving_adds : (c d e x : ℕ) → c ≤ d → d ≤ e → saving c d x + saving d e x ≡ saving c e x
saving_adds c d e x h k = rw (saving_is c d x, saving_is d e x, saving_is c e x) (omega arith)

-- what is paid and what is saved are d - c together
pub paid_saved : (c d x : ℕ) → payment c d x + saving c d x ≡ d - c
unfolding payment
paid_saved c d x = omega (arith, saving_width c d x)

-- what the total has above c, less what it has above d
pays_is : (c d x : ℕ) → c < d → payment c d x ≡ (x - c) - (x - d)
unfolding payment saving
pays_is c d x l = by_total (λ s. (d - c) - s ≡ (x - c) - (x - d)) c d x (λ h. omega arith) (λ h k. omega arith) (λ h k. omega arith)

pub pays_above : PaysAbove
pays_above c d x l = pays_is c d x l ∙ omega arith
