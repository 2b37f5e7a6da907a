-- Sizes: under the limits every number on the way to a term's sums fits 64 bits. A term adds, for each unit of weight, at most 10^6 times
-- an entry, so each sum grows by at most 10^6 times W times the largest entry.
use mathlib.Core.Path.{◌≡◌, refl}
use mathlib.Core.List.{List, [], ◌∷◌}
use Prim.Native.Nat.{ℕ, zero, suc, ◌+◌, ◌-◌, ◌*◌, ◌≤◌, ◌<◌, min, zero-le}
use native.Mathlib.Nat as NL
use native.Mathlib.Omega.{arith}
use lib.IntN.{ℤ, pos, negsuc, nat_abs, ◌+ℤ◌, ◌*ℤ◌}
use lib.ListN.{length, get_or}
use mir.Syntax.{w64}
use mir.Val.{SFits}
use Rattle.algebra.specs.Sum.{accumulate, sumℕ}
use Rattle.algebra.proofs.Natural.{naturals}
use Rattle.algebra.proofs.Sum.{accumulate_next, sum_zero, sum_shift, sum_vanishes}
use Rattle.algebra.proofs.Size.{size_add, size_mul_le, size_fits}
use Rattle.model.specs.Weights.{total_weight}
use Rattle.model.specs.Limits.{unit, most_last}
use Rattle.outward.specs.Division.{ceil_div}
use Rattle.outward.proofs.Division.{ceil_size}
use Rattle.enclosure.specs.declared.Entry.{Entry}
use Rattle.enclosure.specs.declared.term.Factor.{Factor}
use Rattle.enclosure.specs.Entry.{plus, scaled, EntryFits}
use Rattle.enclosure.specs.Term.{TermRoom, Small, line_at, factor_of, line_factor, term_at, term_sums}
use Rattle.enclosure.specs.Run.{FactorSmall}

-- ---- weights
-- the first n weights are no more than all of them
pub first_weights : (n : ℕ) (ws : List ℕ) → sumℕ n (λ y. get_or ws y 0) ≤ total_weight ws
first_weights n [] = NL.le_of_eq (sum_vanishes naturals n (λ y. 0) (λ y l. refl))
first_weights zero (w ∷ ws) = rw (sum_zero naturals) zero-le
first_weights (suc n) (w ∷ ws) = omega (arith, sum_shift naturals n (λ y. get_or (w ∷ ws) y 0), first_weights n ws)

pub one_weight : (y : ℕ) (ws : List ℕ) → get_or ws y 0 ≤ total_weight ws
one_weight y ws = omega (arith, accumulate_next 0 ◌+◌ y (λ y. get_or ws y 0), first_weights (y + 1) ws)

-- ---- one entry
module _ (e : Entry) (small : Small e) where
  pub scaled_size : (f : ℤ) (m : ℕ) → nat_abs f ≤ m
      → (nat_abs (scaled f e).low ≤ m * (2 * unit)) × (nat_abs (scaled f e).high ≤ m * (2 * unit)) × (nat_abs (scaled f e).bound ≤ m * unit)
  unfolding scaled
  scaled_size (pos n) m h = (
    size_mul_le (pos n) e.low m (2 * unit) h small.low,
    size_mul_le (pos n) e.high m (2 * unit) h small.high,
    size_mul_le (pos n) e.bound m unit h small.bound,
  )
  scaled_size (negsuc n) m h = (
    size_mul_le (negsuc n) e.high m (2 * unit) h small.high,
    size_mul_le (negsuc n) e.low m (2 * unit) h small.low,
    size_mul_le (pos (suc n)) e.bound m unit h small.bound,
  )

-- ---- sums
-- one column of a running sum, where the column of a sum is the sum of the columns
module _ (column : Entry → ℤ) (adds : (d e : Entry) → column (plus d e) ≡ column d +ℤ column e) where
  pub running_size : (s : Entry) (g : ℕ → Entry) (w : ℕ → ℕ) (m n : ℕ) → ((y : ℕ) → y < n → nat_abs (column (g y)) ≤ w y * m)
      → nat_abs (column (accumulate s plus n g)) ≤ nat_abs (column s) + sumℕ n w * m
  unfolding accumulate
  running_size s g w m zero h = omega arith
  running_size s g w m (suc n) h = rw (adds (accumulate s plus n g) (g n), NL.add-mul) (omega (
    arith,
    size_add (column (accumulate s plus n g)) (column (g n)),
    running_size s g w m n (λ y l. h y (omega arith)),
    h n (omega arith),
  ))

-- ---- the quotient of a bound's sum, and one more
pub quotient_fits : (z : ℤ) (d : ℕ) → nat_abs z ≤ 4000000000000000000 → SFits w64 (ceil_div z d +ℤ pos 1)
quotient_fits z d h = size_fits w64 (ceil_div z d +ℤ pos 1) (omega (arith, size_add (ceil_div z d) (pos 1), ceil_size z d))

-- ---- a factor
module _ (f : Factor) (h : FactorSmall f) where
  pub slope_fits : SFits w64 f.slope
  slope_fits = size_fits w64 f.slope (omega (arith, h.slope_small))

  pub slope_size : (y : ℕ) → y ≤ most_last → nat_abs (f.slope *ℤ pos y) ≤ 500000
  slope_size y l = size_mul_le f.slope (pos y) 1000 most_last h.slope_small l

  pub line_size : (y : ℕ) → y ≤ most_last → nat_abs (line_at f y) ≤ 1000000
  line_size y l = omega (arith, size_add (f.slope *ℤ pos y) f.constant, slope_size y l, h.constant_small)

  -- of severity y, whose weight is w
  pub factor_fits : (y w : ℕ) → y ≤ most_last → w ≤ 1000 → SFits w64 (factor_of f y w)
  factor_fits y w l k = size_fits w64 (factor_of f y w) (omega (
    arith,
    size_mul_le (line_at f y) (pos w) 1000000 1000 (line_size y l) k,
  ))

  pub factor_size : (weights : List ℕ) (y : ℕ) → y < most_last → nat_abs (line_factor f weights y) ≤ get_or weights y 0 * 1000000
  factor_size weights y l = omega (
    arith,
    size_mul_le (line_at f (y + 1)) (pos (get_or weights y 0)) 1000000 (get_or weights y 0) (line_size (y + 1) (omega arith)) (NL.le_refl _),
  )

-- ---- a term
module _ (sums : Entry) (f : Factor) (x : ℕ) (weights : List ℕ) (row : ℕ → Entry) (h : TermRoom sums f x weights row) where
  pub factor_small : FactorSmall f
  factor_small = record { constant_small = h.constant_small; slope_small = h.slope_small }

  abbrev summand : ℕ → Entry
  summand = term_at (line_factor f weights) x row

  summand_size : (y : ℕ) → y < x → (nat_abs (summand y).low ≤ get_or weights y 0 * 2000000000000000)
      × (nat_abs (summand y).high ≤ get_or weights y 0 * 2000000000000000) × (nat_abs (summand y).bound ≤ get_or weights y 0 * 1000000000000000)
  summand_size y l =
      let small = h.row_small (x - (y + 1)) (omega arith) in
      let size = factor_size f factor_small weights y (omega (arith, h.x_small)) in
      let s = scaled_size (row (x - (y + 1))) small (line_factor f weights y) (get_or weights y 0 * 1000000) size in
      (omega (arith, s.0), omega (arith, s.1), omega (arith, s.2))

  -- the sums that at most a whole term was added to
  abbrev Grown : Entry → Type 0
  Grown e = (nat_abs e.low ≤ nat_abs sums.low + 2000000000000000000) × (nat_abs e.high ≤ nat_abs sums.high + 2000000000000000000)
      × (nat_abs e.bound ≤ nat_abs sums.bound + 1000000000000000000)

  -- after n severities
  grown : (n : ℕ) → n ≤ x → Grown (accumulate sums plus n summand)
  grown n k =
      let w = NL.le_trans (first_weights n weights) h.weights_small in (
        omega (arith, running_size (λ e. e.low) (λ d e. refl) sums summand _ 2000000000000000 n (λ y l. (summand_size y (omega arith)).0)),
        omega (arith, running_size (λ e. e.high) (λ d e. refl) sums summand _ 2000000000000000 n (λ y l. (summand_size y (omega arith)).1)),
        omega (
          arith,
          running_size (λ e. e.bound) (λ d e. refl) sums summand _ 1000000000000000 n
              (λ y l. (summand_size y (omega arith)).2),
        ),
      )

  pub grown_fits : (n : ℕ) → n ≤ x → EntryFits (accumulate sums plus n summand)
  grown_fits n k =
      let g = grown n k in
      record {
        low = size_fits w64 _ (omega (arith, g.0, h.low_sum));
        high = size_fits w64 _ (omega (arith, g.1, h.high_sum));
        bound = size_fits w64 _ (omega (arith, g.2, h.bound_sum));
      }

  -- the whole term
  pub term_size : Grown (term_sums sums (line_factor f weights) x weights row)
  term_size = grown (min x (length weights)) (omega arith)
