-- The table of claim sizes (the paper's "table"), and its convolutions.
use Rattle.std.specs.Prelude.{List, ℕ, zero, suc, ◌-◌, ◌≤◌, ◌<◌, pos, get_or}
use Rattle.algebra.specs.Fraction.{Fraction, over, whole, ◌⊗◌, one_to, ◌≈◌}
use Rattle.model.specs.Weights.{total_weight}

-- the weights w(1), .., w(m), those of the claims that are not zero
pub record Severity : Type 0 where
  pub weights : List ℕ
  pub total_pos : 1 ≤ total_weight weights

-- w(y): "The weight w(y) at place y (from 1) belongs to severity y"; 0 for y past m
abbrev pub weight : Severity → ℕ → ℕ
weight table zero = 0
weight table (suc y) = get_or table.weights y 0

-- "f(y) = w(y)/W, and 0 for y past m.", with these weights' own sum for W
unfoldable pub density : Severity → ℕ → Fraction
density table y = over (pos (weight table y)) (total_weight table.weights) table.total_pos

-- "The n-fold convolution of f at x is 1 at x = 0 and 0 elsewhere for n = 0; for larger n it is the sum over y from 1 to x of f(y) times
-- the (n-1)-fold convolution at x-y."
unfoldable pub convolution : (ℕ → Fraction) → ℕ → ℕ → Fraction
convolution f zero zero = whole (pos 1)
convolution f zero (suc x) = whole (pos 0)
convolution f (suc n) x = one_to x (λ y. f y ⊗ convolution f n (x - y))

-- "Terms beyond n = x vanish, as every severity is at least 1."
abbrev pub TermsVanish : Type 0
TermsVanish = (f : ℕ → Fraction) (n x : ℕ) → x < n → convolution f n x ≈ whole (pos 0)
