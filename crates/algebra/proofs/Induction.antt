-- Strong induction: by induction on n, the claim holds at every number below n.
use Prim.Native.Nat.{ℕ, zero, suc, ◌<◌}
use native.Mathlib.Nat as NL
use native.Mathlib.Omega.{arith}
use Rattle.algebra.specs.Induction.{StrongInduction}

below : (Q : ℕ → Type 0) → ((x : ℕ) → ((z : ℕ) → z < x → Q z) → Q x) → (n z : ℕ) → z < n → Q z
below Q step zero z l = absurd (NL.not-suc-le-zero l)
below Q step (suc n) z l = step z (λ y m. below Q step n y (omega arith))

pub strong : StrongInduction
strong Q step x = step x (below Q step x)
