-- A factor's line: where it is below zero with one sign, it is zero or more with the other.
use mathlib.Core.Path.{◌≡◌, sym, ◌∙◌, ap}
use mathlib.Core.Bool.{Bool, true, false, not}
use Prim.Native.Nat.{ℕ}
use lib.IntN.{pos, neg_ℤ}
use lib.Signed.{◌≤ℤ◌, ◌<ℤ◌}
use Rattle.algebra.proofs.Line.{line_negative}
use Rattle.algebra.proofs.Ring.{neg_neg}
use Rattle.algebra.proofs.Size.{size_neg}
use Rattle.algebra.proofs.Integer.{integers, signed, split_neg}
use Rattle.enclosure.specs.declared.term.Factor.{Factor}
use Rattle.enclosure.specs.Term.{line_at}
use Rattle.enclosure.specs.Run.{FactorSmall, upright}

module _ (f : Factor) where
  other_line : (below : Bool) (y : ℕ) → line_at (upright f (not below)) y ≡ neg_ℤ (line_at (upright f below) y)
  other_line true y = sym (ap neg_ℤ (line_negative f.slope f.constant y) ∙ neg_neg integers (line_at f y))
  other_line false y = line_negative f.slope f.constant y

  pub other_sign : (below : Bool) (y : ℕ) → line_at (upright f below) y <ℤ pos 0 → pos 0 ≤ℤ line_at (upright f (not below)) y
  other_sign below y h = rw (other_line below y) (omega (signed, split_neg (line_at (upright f below) y)))

  pub upright_small : (below : Bool) → FactorSmall f → FactorSmall (upright f below)
  upright_small true h = record {
    constant_small = rw (size_neg f.constant) h.constant_small;
    slope_small = rw (size_neg f.slope) h.slope_small;
  }
  upright_small false h = h
