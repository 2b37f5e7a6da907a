-- What a line that is read tells: its numbers, the bytes after it, and that a local of 64 bits holds each number.
use mathlib.Core.Path.{◌≡◌, sym, ap, ◌∙◌}
use mathlib.Core.Bool.{Bool, true, false}
use mathlib.Core.List.{List, [], ◌∷◌}
use Prim.Native.Nat.{ℕ}
use native.Mathlib.Nat.{lt_trans}
use mir.Syntax.{w64}
use mir.Val.{to_z, of_z}
use mir.Facts.{to_z-of_z}
use lib.Dec.{lit<}
use lib.IntN.{ℤ, pos}
use lib.ListN.{length}
use Rattle.std.proofs.Common.{Bor, Result, Ok}
use Rattle.algebra.proofs.Size.{size_fits}
use Rattle.text.specs.Numbers.{sign_fits}
use Rattle.lines.specs.declared.Reason.{Reason}
use Rattle.lines.specs.Line.{numbers, line, signed}
use Rattle.lines.specs.Parts.{one_of, two_of}
use Rattle.lines.proofs.LineParsed.{line_parsed}

-- what the code has of a line that gives the numbers zs
pub record GoodLine (signs : Bool) (keyword : List ℕ) (s : List ℕ) (zs : List ℤ) (rest : List ℕ) : Type 0 where
  pub gives : line signs keyword (length zs) s ≡ numbers zs rest
  -- a local of 64 bits holds each number, with its sign
  pub held : (i : ℕ) → to_z w64 (of_z w64 (signed zs i)) ≡ signed zs i
  pub fit : (i : ℕ) → sign_fits signs (to_z w64 (of_z w64 (signed zs i))) ≡ true

pub good_line : (signs : Bool) (keyword s : List ℕ) (zs : List ℤ) (rest : List ℕ)
    → line signs keyword (length zs) s ≡ numbers zs rest → GoodLine signs keyword s zs rest
good_line signs keyword s zs rest e =
    let parsed = line_parsed signs keyword (length zs) s zs rest e in
    let held : (i : ℕ) → to_z w64 (of_z w64 (signed zs i)) ≡ signed zs i =
    λ i. to_z-of_z (size_fits w64 (signed zs i) (lt_trans (parsed.small i) (lit< tt))) in
    record { gives = e; held = held; fit = λ i. rw (held i) (parsed.fit i) }

-- a line of one number, as `read_one` and `read_weight` tell of it
module _ (keyword s : List ℕ) {read : Result (ℕ × Bor (List ℕ)) Reason} (says : one_of read ≡ line false keyword 1 s) where
  pub good_one : {n : ℕ} {rest : Bor (List ℕ)} → read ≡ Ok (n, rest) → GoodLine false keyword s (pos n ∷ []) rest.now
  good_one {n} {rest} e = good_line false keyword s (pos n ∷ []) rest.now (sym says ∙ ap one_of e)

-- a line of two, as `read_two` does
module _ (signs : Bool) (keyword s : List ℕ) {read : Result (ℤ × ℤ × Bor (List ℕ)) Reason}
    (says : two_of read ≡ line signs keyword 2 s) where
  pub good_two : {y z : ℤ} {rest : Bor (List ℕ)} → read ≡ Ok (y, z, rest) → GoodLine signs keyword s (y ∷ z ∷ []) rest.now
  good_two {y} {z} {rest} e = good_line signs keyword s (y ∷ z ∷ []) rest.now (sym says ∙ ap two_of e)
