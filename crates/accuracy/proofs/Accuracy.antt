-- The statements: an accepted job is within the limits and shows row 0 of the curve, of which the other files speak.
use mathlib.Core.Path.{sym, subst, subst₂}
use native.Mathlib.Omega.{arith}
use Rattle.algebra.specs.Fraction.{Between}
use Rattle.exact.specs.JobAmount.{amount}
use Rattle.rows.proofs.Filled.{sums_fit}
use Rattle.compound.proofs.Accepted.{limits, no_zeros, no_fault, shows}
use Rattle.accuracy.specs.Accuracy.{AcceptedDivisible, ShowsCurve, AcceptedSumsFit, Encloses, GapWithinBound, SameBounds}
use Rattle.accuracy.proofs.Enclosure.{amount_enclosed}
use Rattle.accuracy.proofs.Gap.{Narrow, narrow}
use Rattle.accuracy.proofs.Bounds.{SameBound, bounds}

pub accepted_divisible : AcceptedDivisible
accepted_divisible job weights lent ok =
    let within = limits job weights lent ok in
    record {
      divisor_pos = within.law.divisor_least;
      thinned_pos = within.thinned_least;
      total_pos = within.table.weights_least;
    }

pub shows_curve : ShowsCurve
shows_curve = shows

pub accepted_sums_fit : AcceptedSumsFit
accepted_sums_fit job weights lent ok x h = sums_fit job weights (limits job weights lent ok) x h
    (λ z l. no_fault job weights lent ok z (omega arith))

pub encloses : Encloses
encloses job weights lent ok h x l p s t = subst (λ e. Between e.low e.high (amount job weights h p x))
    (sym (shows job weights lent ok x l))
    (amount_enclosed job weights h (no_zeros job weights lent ok) p (s, t) (limits job weights lent ok).law.order_least x)

pub gap_within_bound : GapWithinBound
gap_within_bound job weights lent ok x l = subst Narrow (sym (shows job weights lent ok x l))
    (narrow job weights (accepted_divisible job weights lent ok) x 0 (limits job weights lent ok).law.order_least)

pub same_bounds : SameBounds
same_bounds job job' weights lent lent' ok ok' same_law same_zero same_gap x l l' =
    subst₂ SameBound (sym (shows job weights lent ok x l)) (sym (shows job' weights lent' ok' x l'))
    (bounds job job' weights same_gap (accepted_divisible job weights lent ok) same_law same_zero x 0
    (limits job weights lent ok).law.order_least)
