-- Where the line end follows the digits found, `is_numeral` decides; elsewhere the line is no number.
use mathlib.Core.Path.{◌≡◌, refl, sym, ap, ◌∙◌}
use mathlib.Core.Bool.{Bool, true, false, cond}
use mathlib.Core.List.{List, [], ◌∷◌}
use mathlib.Core.Option.{some, none}
use Prim.Native.Nat.{ℕ, ◌+◌}
use lib.Dec.{eqb}
use lib.IntN.{pos}
use lib.ListN.{take}
use lib.Seq.{drop-drop}
use lib.Pointwise.{pointwise}
use Rattle.std.proofs.Common.{Bor}
use Rattle.std.specs.Bool.{then_some}
use Rattle.algebra.proofs.Slice.{part_to_end}
use Rattle.text.specs.Bytes.{line_end}
use Rattle.text.specs.Numbers.{starts_with, is_numeral}
use Rattle.text.specs.Leading.{line_found}
use Rattle.text.proofs.Read.{starts_prefix}
use Rattle.text.proofs.Leading.{within, front_digits, line_decides, line_other, next_place}
use Rattle.text.proofs.numbers.number_line.Goals as goal

-- what `strip_prefix` says of the text that is left
ends : {part rest : List ℕ} {t : Bool} → part ≡ rest → pointwise eqb (take 1 part) (line_end ∷ []) ≡ t → starts_with line_end rest ≡ t
ends {part} e h = ap (starts_with line_end) (sym e) ∙ starts_prefix line_end part ∙ h

pub split_at-requires : goal.split_at-requires
split_at-requires c = within c.args.s.now c.leading_digits-digits.result c.leading_digits-digits.ensures

pub is_numeral-requires : goal.is_numeral-requires
is_numeral-requires c =
    rw c.split_at.ensures.front (front_digits c.args.s.now c.leading_digits-digits.result c.leading_digits-digits.ensures)

-- where no line end follows
pub returns-in_err-strip_prefix-clause-found : goal.returns-in_err-strip_prefix-clause-found
returns-in_err-strip_prefix-clause-found c =
    let found = c.leading_digits-digits in
    ap line_found c.from_residual.ensures
    ∙ sym (line_other c.args.s.now found.result found.ensures (ends c.split_at.ensures.back c.in_err-strip_prefix.ensures.cases))

pub returns-in_err-strip_prefix-clause-next_line : goal.returns-in_err-strip_prefix-clause-next_line
returns-in_err-strip_prefix-clause-next_line c = next_place c.args.s.now _ (returns-in_err-strip_prefix-clause-found c)

-- as `is_numeral` says
decided : (t : Bool) (n : ℕ) (rest : Bor (List ℕ)) → line_found (then_some t (n, rest)) ≡ cond t (some (pos n, rest.now)) none
decided true n rest = refl
decided false n rest = refl

-- where one does
pub returns-clause-found : goal.returns-clause-found
returns-clause-found c =
    let s = c.args.s.now in
    let found = c.leading_digits-digits in
    let back = c.split_at.ensures.back in
    let begins = c.in_ok-strip_prefix.ensures.cases in
    ap line_found c.then_some.ensures
    ∙ decided c.is_numeral.result found.result.value _
    ∙ ap (λ (l : List ℕ). cond c.is_numeral.result (some (pos found.result.value, l)) none)
    (part_to_end s (found.result.count + 1) ∙ sym (drop-drop 1 found.result.count s))
    ∙ sym (line_decides s found.result found.ensures (ends back begins.0) c.is_numeral.result
    (ap is_numeral (sym c.split_at.ensures.front) ∙ sym c.is_numeral.ensures))

pub returns-clause-next_line : goal.returns-clause-next_line
returns-clause-next_line c = next_place c.args.s.now c.then_some.result (returns-clause-found c)
