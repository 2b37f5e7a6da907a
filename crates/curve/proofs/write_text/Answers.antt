-- The bytes of this write come right behind those written so far, as they do in the text.
use Rattle.std.proofs.Common.{◌≡◌, ℕ, ◌+◌, ◌-◌, List, ◌++◌, rules, length, take, drop, ap, sym, ◌∙◌, subst}
use Rattle.std.proofs.KnownBytes.{Appends-trans}
use Rattle.std.specs.Io.KnownBytes.{Appends}
use lib.Seq.{take-add}
use Rattle.algebra.proofs.Slice.{part_to_end}
use Rattle.curve.proofs.write_text.Goals as goal

one_more : (done n : ℕ) (text : List ℕ) → take done text ++ take n (take (length text - done) (drop done text)) ≡ take (done + n) text
one_more done n text = ap (λ l. take done text ++ take n l) (part_to_end text done) ∙ sym (take-add done n text)

pub loop-done-preserved : goal.loop-done-preserved
loop-done-preserved g c =
    let (within, appended) = c.loop-done.invariant in
    (search rules, subst (Appends _ _) (one_more _ _ _) (Appends-trans _ _ _ _ _ appended c.write_more-more.ensures.bytes))
