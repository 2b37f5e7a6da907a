-- Why the rule for exact entries is right, one step of the outward rule at a time and in any ordered ring: where low and high were the
-- exact numbers u and v, for the low and for the high start, they still are after the step.
use Rattle.std.specs.Prelude.{◌≡◌, Bool, true, ℕ, ◌≤◌, ◌<◌, ℤ}
use Rattle.algebra.specs.Semiring.{nat}
use Rattle.algebra.specs.Ring.{int}
use Rattle.algebra.specs.Order.{OrderedRing}
use Rattle.algebra.specs.Sum.{sum, all_of}
use Rattle.enclosure.specs.declared.Entry.{Entry}
use Rattle.enclosure.specs.Entry.{sum_of, scaled, rounded, divides_sums}
use Rattle.enclosure.specs.Mark.{keeps_exact}

module _ (O : OrderedRing) where
  open O.ring.semiring use {carrier as A, ◌·◌}

  infixl 7 ◌·◌
  -- an entry whose low is u and whose high is v
  pub record Ends (e : Entry) (u v : A) : Type 0 where
    pub low : int O.ring e.low ≡ u
    pub high : int O.ring e.high ≡ v

  -- a product, where the entry "used with a nonzero factor and weight is exact and, under a negative factor, has equal ends". Its ends are
  -- known to be u and v if it is exact. A negative factor exchanges them, and that is right where they are equal. A factor of 0 gives 0
  abbrev pub ProductExact : Type 0
  ProductExact = (factor : ℤ) (e : Entry) (exact : Bool) (u v : A) → (exact ≡ true → Ends e u v)
      → keeps_exact factor e.low e.high exact ≡ true
      → Ends (scaled factor e) (int O.ring factor · u) (int O.ring factor · v)

  -- a sum
  abbrev pub SumExact : Type 0
  SumExact = (n : ℕ) (e : ℕ → Entry) (u v : ℕ → A) → ((i : ℕ) → i < n → Ends (e i) (u i) (v i))
      → Ends (sum_of n e) (sum O.ring.semiring n u) (sum O.ring.semiring n v)

  -- the sum of a term: "every entry used .." is asked for
  abbrev pub TermSumExact : Type 0
  TermSumExact = (n : ℕ) (factor : ℕ → ℤ) (e : ℕ → Entry) (exact : ℕ → Bool) (u v : ℕ → A)
      → ((y : ℕ) → y < n → exact y ≡ true → Ends (e y) (u y) (v y))
      → all_of n (λ y. keeps_exact (factor y) (e y).low (e y).high (exact y)) ≡ true
      → Ends (sum_of n (λ y. scaled (factor y) (e y)))
      (sum O.ring.semiring n (λ y. int O.ring (factor y) · u y)) (sum O.ring.semiring n (λ y. int O.ring (factor y) · v y))

  -- a quotient, where "neither sum's division left a remainder": sums of d u and d v are divided by d
  abbrev pub QuotientExact : Type 0
  QuotientExact = (d : ℕ) (sums : Entry) (u v : A) → 1 ≤ d
      → Ends sums (nat O.ring.semiring d · u) (nat O.ring.semiring d · v)
      → divides_sums d sums ≡ true → Ends (rounded d sums) u v
