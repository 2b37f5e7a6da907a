-- Texts put one after the other are one text, since the definition goes from byte to byte. From a row's start on each byte is written
-- behind those before it, as long as the row has places.
use mathlib.Core.Path.{◌≡◌, refl, sym, ap, ◌∙◌}
use mathlib.Core.List.{List, [], ◌∷◌, ◌++◌, append-nil, append_assoc}
use Prim.Native.Nat.{ℕ, suc, ◌+◌, ◌≤◌, ◌<◌, min}
use native.Mathlib.Nat.{min-eq_left, min-eq_right}
use native.Mathlib.Omega.{arith}
use lib.ListN.{length, set, length-append}
use lib.Seq.{set_out}
use Rattle.algebra.specs.Slice.{written}
use Rattle.algebra.proofs.Slice.{written_length, written_next}
use Rattle.output.specs.declared.Output as declared
use Rattle.output.specs.Output.{Output, output, put_byte, put, Puts, PutsInto, PutWhole}

-- ---- one text after another
put_append : (out : Output) (s t : List ℕ) → put out (s ++ t) ≡ put (put out s) t
unfolding put
put_append out [] t = refl
put_append out (b ∷ s) t = put_append (put_byte out b) s t

infixr 20 ◌then◌
pub ◌then◌ : {s t : List ℕ} {before middle after : Output} → Puts s before middle → Puts t middle after → Puts (s ++ t) before after
◌then◌ {s} {t} {before} p q = record { is = q.is ∙ ap (λ o. put o t) p.is ∙ sym (put_append before s t) }

pub nothing : {out : Output} → Puts [] out out
unfolding put
nothing = record { is = refl }

-- ---- one byte, where the row has a place for it and where it has none
pub put_here : (row : List ℕ) (at b : ℕ) → at < length row → Puts (b ∷ []) (output row at) (output (set row at b) (at + 1))
unfolding put
put_here row at b h = let within : at ≤ length row = omega arith in record { is = rw (min-eq_left within) }

pub put_past : (row : List ℕ) (at b : ℕ) → length row ≤ at → Puts (b ∷ []) (output row at) (output row (length row + 1))
unfolding put
put_past row at b h = record { is = rw (set_out row at b h, min-eq_right h) }

-- ---- from the start of a row on
behind : (row front : List ℕ) (b : ℕ) → length front < length row
    → min (length front) (length (written front row)) + 1 ≡ length (front ++ (b ∷ []))
behind row front b h =
    let within : length front ≤ length row = omega arith in
    rw (written_length front row within, min-eq_left within, length-append front (b ∷ [])) refl

-- behind a text that is written, more of it
put_behind : (row front text : List ℕ) → length (front ++ text) ≤ length row
    → put (output (written front row) (length front)) text ≡ output (written (front ++ text) row) (length (front ++ text))
unfolding put
put_behind row front [] h = rw (append-nil front)
put_behind row front (b ∷ text) h =
    let whole : length front + suc (length text) ≤ length row = rw (length-append front (b ∷ text)) at h in
    let room : length front < length row = omega arith in
    let more : length ((front ++ (b ∷ [])) ++ text) ≤ length row = rw (append_assoc front (b ∷ []) text) h in
    ap (λ r. put (output r (min (length front) (length (written front row)) + 1)) text) (written_next front row b room)
    ∙ ap (λ k. put (output (written (front ++ (b ∷ [])) row) k) text) (behind row front b room)
    ∙ put_behind row (front ++ (b ∷ [])) text more
    ∙ ap (λ t. output (written t row) (length t)) (append_assoc front (b ∷ []) text)

pub put_whole : PutWhole
put_whole row text h = put_behind row [] text h

-- ---- the same in the row that the code holds
infixr 20 ◌and_then◌
pub ◌and_then◌ : {s t : List ℕ} {before middle after : declared.Output} → PutsInto s before middle → PutsInto t middle after
    → PutsInto (s ++ t) before after
p and_then q = record { is_put = p.is_put then q.is_put; same_row = q.same_row ∙ p.same_row }

pub nothing_put : {out : declared.Output} → PutsInto [] out out
nothing_put = record { is_put = nothing; same_row = refl }
