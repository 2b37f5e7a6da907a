-- Two signed numbers are the same where their bits are.
use mathlib.Core.Path.{◌≡◌, refl, sym, ap, ◌∙◌, subst}
use mathlib.Core.Bool.{Bool, true, false}
use borrow.Author.Tests.{eqb-true, eqb-false, eq-eqb}
use lib.Dec.{T, eqb}
use lib.IntN.{ℤ, pos, negsuc}
use mir.Syntax.{Width}
use mir.Val.{SFits, to_z, of_z}
use mir.Facts.{to_z-of_z}
use Rattle.algebra.specs.Table.{same_integer}
use Rattle.algebra.proofs.Table.{same_integer_lem}

pub same_self : (z : ℤ) → same_integer z z ≡ true
same_self (pos n) = eq-eqb n n refl
same_self (negsuc n) = eq-eqb n n refl

pub bits_same : (w : Width) (a b : ℤ) → SFits w a → SFits w b → eqb (of_z w a) (of_z w b) ≡ same_integer a b
bits_same w a b f g = by (eqb (of_z w a) (of_z w b)) (same_integer a b) refl refl
  where
    equal : of_z w a ≡ of_z w b → a ≡ b
    equal e = sym (to_z-of_z f) ∙ ap (to_z w) e ∙ to_z-of_z g

    by : (s t : Bool) → eqb (of_z w a) (of_z w b) ≡ s → same_integer a b ≡ t → s ≡ t
    by true t e h = sym (same_self a) ∙ ap (same_integer a) (equal (eqb-true _ _ e)) ∙ h
    by false false e h = refl
    by false true e h = absurd (eqb-false _ _ e (ap (of_z w) (same_integer_lem a b (subst T (sym h) tt))))
