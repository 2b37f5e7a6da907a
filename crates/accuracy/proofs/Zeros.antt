-- By `Encloses`. With at most n claims the starting chance is the chance of total 0, for the amounts with zeros are those of the thinned
-- law from there. Otherwise they come to these as n grows, and these are near those of a starting chance near it, which the start allows.
use mathlib.Core.Path.{sym, subst}
use Rattle.algebra.proofs.Value.{value_eq, Within, within_value, of_within, ≼_trans, plus_mono}
use Rattle.exact.specs.JobAmount.{given_law, job_table, job_law}
use Rattle.exact.proofs.Apart.{apart_then, constant_size, amounts_apart}
use Rattle.exact.proofs.Limit.{finite_is_thinned, distribution_is_thinned}
use Rattle.accuracy.specs.Zeros.{with_zeros, EnclosesWithZeros, EnclosesLimitWithZeros}
use Rattle.accuracy.proofs.Accuracy.{encloses}

pub encloses_with_zeros : EnclosesWithZeros
encloses_with_zeros job weights lent ok one h p n ends (low, high) x l =
    let same = finite_is_thinned (given_law job weights h) one job.zero (job_table job weights h) h.thinned_pos p n ends x in
    of_within _ _ _ (subst (Within _ _) (sym (value_eq same))
    (within_value _ _ _ (encloses job weights lent ok h x l (with_zeros job weights h p n 0) low high)))

pub encloses_limit_with_zeros : EnclosesLimitWithZeros
encloses_limit_with_zeros job weights lent ok one h p count x l =
    let table = job_table job weights h in
    let (K, near) = distribution_is_thinned (given_law job weights h) one job.zero table h.thinned_pos count p x in (
      K,
      constant_size (job_law job weights h) table x,
      λ n p₀ e start close.
          let inside = encloses job weights lent ok h x l p₀ start.0 start.1 in
          let far = apart_then _ _ (amounts_apart (job_law job weights h) table x e (close.1, close.0)) ((near n).1, (near n).0) in
          (≼_trans inside.0 far.0, ≼_trans far.1 (plus_mono _ inside.1)),
    )
