-- What the rows of an accepted job of order 1 say of the amounts in which claims of size 0 count as claims (`up_to_claims` of
-- exact/specs/Zeros, from a chance p of no claims, in units): "a start is now the chance that the total is zero", so the rows enclose them
-- where the start holds their chance of total 0.
use Rattle.std.specs.Prelude.{◌≡◌, List, ℕ, suc, ◌≤◌, pos}
use Rattle.std.proofs.Math.Nat as NL
use Rattle.algebra.specs.Fraction.{Fraction, over, whole, ◌⊕◌, ◌⊗◌, ◌≈◌, ◌≼◌, Between}
use Rattle.model.specs.declared.Job.{Job}
use Rattle.exact.specs.Frequency.{count_coefficient}
use Rattle.exact.specs.JobAmount.{Divisible, given_law, job_table}
use Rattle.exact.specs.Zeros.{up_to_claims, Apart}
use Rattle.compound.specs.Lent.{Lent}
use Rattle.accuracy.specs.Accuracy.{Accepted, shown}

-- the amount of at most n claims at total x
abbrev pub with_zeros : (job : Job) (weights : List ℕ) → Divisible job weights → Fraction → ℕ → ℕ → Fraction
with_zeros job weights h p n x = up_to_claims (given_law job weights h) job.zero (job_table job weights h) p n x

-- it lies in the start at total 0
abbrev pub StartHolds : (job : Job) (weights : List ℕ) → Divisible job weights → Fraction → ℕ → Type 0
StartHolds job weights h p n = Between (pos job.start.low) (pos job.start.high) (with_zeros job weights h p n 0)

-- a law with at most n claims, as a binomial one: all amounts lie from low to high
abbrev pub EnclosesWithZeros : Type 0
EnclosesWithZeros = (job : Job) (weights : List ℕ) (lent : Lent) → Accepted job weights lent → job.law.order ≡ 1
    → (h : Divisible job weights) (p : Fraction) (n : ℕ) → count_coefficient (given_law job weights h) (suc n) ≈ whole (pos 0)
    → StartHolds job weights h p n → (x : ℕ) → x ≤ job.last
    → Between (shown job weights lent x).low (shown job weights lent x).high (with_zeros job weights h p n x)

-- any law that has no count coefficient below zero, as every distribution: the rows enclose them as nearly as the chance of total 0 of at
-- most n claims comes to a starting chance that the start allows, and n is large; so they enclose the amounts of all claims where the start
-- holds their chance of total 0
abbrev pub EnclosesLimitWithZeros : Type 0
EnclosesLimitWithZeros = (job : Job) (weights : List ℕ) (lent : Lent) → Accepted job weights lent → job.law.order ≡ 1
    → (h : Divisible job weights) (p : Fraction) → ((n : ℕ) → whole (pos 0) ≼ count_coefficient (given_law job weights h) n)
    → (x : ℕ) → x ≤ job.last → (K C : ℕ) × ((n : ℕ) (p₀ e : Fraction)
    → Between (pos job.start.low) (pos job.start.high) p₀ → Apart e (with_zeros job weights h p n 0) p₀
    → let far = whole (pos C) ⊗ e ⊕ over (pos K) (suc n) (NL.zero-lt-suc n) in
    (whole (shown job weights lent x).low ≼ with_zeros job weights h p n x ⊕ far)
    × (with_zeros job weights h p n x ≼ whole (shown job weights lent x).high ⊕ far))
