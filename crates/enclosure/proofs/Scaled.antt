-- Entries are added like numbers; a factor with its sign turned gives the opposite of what the factor gives.
use mathlib.Core.Path.{◌≡◌, refl, sym, ◌∙◌, ap, ap₂}
use mathlib.Core.List.{List}
use Prim.Native.Nat.{ℕ, zero, suc, ◌+◌, ◌-◌}
use lib.IntN.{ℤ, pos, negsuc, neg_ℤ, ◌*ℤ◌, +ℤ_comm, +ℤ_assoc, +ℤ_idr, neg_ℤ-+ℤ, zero-*ℤ}
use lib.ListN.{get_or}
use Rattle.algebra.proofs.Sum.{sum_related}
use Rattle.algebra.proofs.Integer.{integers}
use Rattle.algebra.proofs.Line.{line_negative}
use Rattle.algebra.proofs.Ring.{neg_mul}
use Rattle.enclosure.specs.declared.Entry.{Entry}
use Rattle.enclosure.specs.declared.term.Factor.{Factor}
use Rattle.enclosure.specs.Entry.{none, plus, minus, opposite, scaled}
use Rattle.enclosure.specs.Term.{line_at, line_factor}
use Rattle.enclosure.specs.Run.{negative, run_sums}

pub same_entry : {l l' h h' b b' : ℤ} → l ≡ l' → h ≡ h' → b ≡ b'
    → ◌≡◌ {A = Entry} (record { low = l; high = h; bound = b }) (record { low = l'; high = h'; bound = b' })
same_entry p q r = λ i. record { low = p i; high = q i; bound = r i }

pub plus_assoc : (a b c : Entry) → plus (plus a b) c ≡ plus a (plus b c)
plus_assoc a b c = same_entry (+ℤ_assoc a.low b.low c.low) (+ℤ_assoc a.high b.high c.high)
    (+ℤ_assoc a.bound b.bound c.bound)

pub plus_comm : (a b : Entry) → plus a b ≡ plus b a
plus_comm a b = same_entry (+ℤ_comm a.low b.low) (+ℤ_comm a.high b.high) (+ℤ_comm a.bound b.bound)

pub plus_none : (a : Entry) → plus a none ≡ a
plus_none a = same_entry (+ℤ_idr a.low) (+ℤ_idr a.high) (+ℤ_idr a.bound)

-- ---- the opposite
opposite_plus : (a b : Entry) → opposite (plus a b) ≡ plus (opposite a) (opposite b)
opposite_plus a b = same_entry (neg_ℤ-+ℤ a.high b.high) (neg_ℤ-+ℤ a.low b.low) refl

opposite_scaled : (f : ℤ) (e : Entry) → opposite (scaled (neg_ℤ f) e) ≡ scaled f e
unfolding scaled
opposite_scaled (pos zero) e = rw (zero-*ℤ e.low, zero-*ℤ e.high) refl
opposite_scaled (pos (suc n)) e =
    same_entry (sym (neg_mul integers (negsuc n) e.low)) (sym (neg_mul integers (negsuc n) e.high)) refl
opposite_scaled (negsuc n) e =
    same_entry (sym (neg_mul integers (pos (suc n)) e.high)) (sym (neg_mul integers (pos (suc n)) e.low)) refl

module _ (f : Factor) where
  negative_factor : (weights : List ℕ) (y : ℕ) → line_factor (negative f) weights y ≡ neg_ℤ (line_factor f weights y)
  negative_factor weights y = ap (λ (z : ℤ). z *ℤ pos (get_or weights y 0)) (line_negative f.slope f.constant (y + 1))
      ∙ neg_mul integers (line_at f (y + 1)) (pos (get_or weights y 0))

  pub opposite_sums : (from to x : ℕ) (weights : List ℕ) (row : ℕ → Entry)
      → opposite (run_sums (negative f) from to x weights row) ≡ run_sums f from to x weights row
  opposite_sums from to x weights row = sum_related (λ a b. opposite a ≡ b) none plus none plus refl
      (λ a c b d p q. opposite_plus a c ∙ ap₂ plus p q) (to - from) _ _
      (λ i l. ap (λ (z : ℤ). opposite (scaled z (row (x - (to - (i + 1) + 1))))) (negative_factor weights (to - (i + 1)))
      ∙ opposite_scaled (line_factor f weights (to - (i + 1))) (row (x - (to - (i + 1) + 1))))

  -- so what the factors add is what comes off with their negatives
  pub minus_sums : (sums : Entry) (from to x : ℕ) (weights : List ℕ) (row : ℕ → Entry)
      → minus sums (run_sums (negative f) from to x weights row) ≡ plus sums (run_sums f from to x weights row)
  minus_sums sums from to x weights row = ap (plus sums) (opposite_sums from to x weights row)
