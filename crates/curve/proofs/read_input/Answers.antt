-- What was read so far stands in front of the part lent to the next read, and the bytes of this read come right behind it.
use Rattle.std.proofs.Common.{◌≡◌, ◌≤◌, ℕ, ◌+◌, List, ◌++◌, rules, length, take, drop, ap, sym, ◌∙◌, subst, le_refl, drop_at, length-take-le}
use Rattle.std.proofs.lemmas.Slice.{take-put_mid_below}
use Rattle.std.proofs.KnownBytes.{Consumes-trans}
use Rattle.std.specs.Io.KnownBytes.{Consumes}
use borrow.Rule.Slice.PartMut.{put_mid, post_of}
use lib.Seq.{take-add, take-append-le}
use Rattle.curve.proofs.read_input.Goals as goal

one_more : (done room n : ℕ) (sheet rest : List ℕ) → done ≤ length sheet → n ≤ length rest
    → take done sheet ++ take n rest ≡ take (done + n) (put_mid done room sheet rest)
one_more done room n sheet rest within fits =
    let after = post_of done room sheet in
    let whole = put_mid done room sheet rest in
    let behind = drop_at (take done sheet) (rest ++ after) done (length-take-le done sheet within) in
    sym (take-add done n whole
    ∙ ap (λ l. l ++ take n (drop done whole)) (take-put_mid_below _ _ _ _ _ (le_refl _) within)
    ∙ ap (λ l. take done sheet ++ take n l) behind
    ∙ ap (λ l. take done sheet ++ l) (take-append-le n rest after fits))

pub loop-done-preserved : goal.loop-done-preserved
loop-done-preserved g c =
    let read = c.read_more-more.ensures in
    let (kept, within, consumed) = c.loop-done.invariant in (
      search rules,
      search rules,
      subst (Consumes _ _)
          (one_more _ _ _ _ _ within (search rules))
          (Consumes-trans _ _ _ _ _ consumed read.bytes),
    )
