-- Commutative rings: semirings in which every number has a negative.
use Rattle.std.specs.Prelude.{◌≡◌, suc, ℤ, pos, negsuc}
use Rattle.algebra.specs.Semiring.{Semiring, nat}

pub record Ring : Type 1 where
  pub semiring : Semiring
  pub neg : semiring.carrier → semiring.carrier
  pub add_neg : (a : semiring.carrier) → semiring.◌⊹◌ a (neg a) ≡ semiring.𝟘

-- the numbers of a ring
abbrev pub Number : Ring → Type 0
Number R = R.semiring.carrier

-- the integer z in a ring
unfoldable pub int : (R : Ring) → ℤ → Number R
int R (pos n) = nat R.semiring n
int R (negsuc n) = R.neg (nat R.semiring (suc n))
