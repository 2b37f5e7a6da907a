-- Its line begins where `line_start` says, and the word's part of the line is a part of the sheet.
use mathlib.Core.Path.{◌≡◌, ap, ◌∙◌}
use mathlib.Core.Bool.{Bool}
use mathlib.Core.List.{List}
use Prim.Native.Nat.{ℕ, ◌+◌, ◌-◌}
use native.Mathlib.Omega.{arith}
use lib.ListN.{length, take, drop}
use Rattle.algebra.proofs.Slice.{part_to_end}
use Rattle.text.specs.Bytes.{line_end}
use Rattle.text.specs.Lines.{before, after_lines, line_at, line_start}
use Rattle.text.proofs.Scan.{until_before, line_starts}
use Rattle.lines.specs.Line.{keyword_of, number_words, signs_on}
use Rattle.fault.specs.declared.Part.{Part}
use Rattle.fault.specs.Call.{first_part, part_on, from, part_at}
use Rattle.fault.proofs.Located.{in_sheet}
use Rattle.fault.proofs.word.first_faulty.Goals as goal

-- where line n begins in a sheet, and what its bytes are
module _ (sheet : List ℕ) (n start end : ℕ) (starts : start ≡ line_start n sheet) where
  abbrev rest : List ℕ
  rest = take (length sheet - start) (drop start sheet)

  abbrev line : List ℕ
  line = take end rest

  rest_is : rest ≡ after_lines (n - 1) sheet
  rest_is = part_to_end sheet start ∙ ap (λ (k : ℕ). drop k sheet) starts ∙ line_starts n sheet

  line_is : end ≡ length (before line_end rest) → line ≡ line_at n sheet
  line_is ends = until_before line_end rest end ends ∙ ap (before line_end) rest_is

  -- the word's part, as a part of the sheet
  part_is : end ≡ length (before line_end rest) → (signs : Bool) → signs ≡ signs_on line → (word : Part)
      → word ≡ first_part signs (length (keyword_of line) + 1) (number_words line) → from start word ≡ part_at n sheet
  part_is ends signs has word e =
      ap (from start)
      (e ∙ ap (λ (t : Bool). first_part t (length (keyword_of line) + 1) (number_words line)) has ∙ ap part_on (line_is ends))
      ∙ ap (λ (k : ℕ). from k (part_on (line_at n sheet))) starts

pub overflow_add-result : goal.overflow_add-result
overflow_add-result c =
    let sheet = c.args.sheet.now in
    let word = c.first_no_number-word in
    let stands =
    part_is sheet c.args.n c.line_start-start.result c.until.result c.line_start-start.ensures c.until.ensures.found
    c.has_signs.result c.has_signs.ensures word.result word.ensures in
    omega (arith, (in_sheet c.args.n sheet).within, ap (λ (p : Part). p.start) stands)

pub returns : goal.returns
returns c =
    part_is c.args.sheet.now c.args.n c.line_start-start.result c.until.result c.line_start-start.ensures c.until.ensures.found
    c.has_signs.result c.has_signs.ensures c.first_no_number-word.result c.first_no_number-word.ensures
