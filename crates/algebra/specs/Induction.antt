-- Induction over ℕ from all smaller numbers.
use Rattle.std.specs.Prelude.{ℕ, ◌<◌}

-- what holds at x where it holds at each smaller number holds everywhere
abbrev pub StrongInduction : Type 1
StrongInduction = (Q : ℕ → Type 0) → ((x : ℕ) → ((z : ℕ) → z < x → Q z) → Q x) → (x : ℕ) → Q x
