-- The part of the sheet has the word's bytes.
use mathlib.Core.Path.{◌≡◌}
use Prim.Native.Nat.{◌+◌, ◌-◌}
use mathlib.Core.List.{List}
use Prim.Native.Nat.{ℕ}
use native.Mathlib.Omega.{arith}
use Rattle.fault.specs.declared.Part.{Part}
use Rattle.fault.specs.Call.{faulty_word, faulty_part}
use Rattle.fault.specs.First.{PartIs}
use Rattle.fault.proofs.Located.{faulty_part_is_word}
use Rattle.fault.proofs.faulty_word.Goals as goal

stands : (sheet : List ℕ) (places : ℕ) (part : Part) → part ≡ faulty_part places sheet → PartIs part sheet (faulty_word places sheet)
stands sheet places part e = rw e (faulty_part_is_word places sheet)

pub overflow_add-result : goal.overflow_add-result
overflow_add-result c =
    let part = c.faulty_part-part in
    let at = stands c.args.sheet.now c.args.places part.result part.ensures in
    search arith

pub slice_bounds-result-end : goal.slice_bounds-result-end
slice_bounds-result-end c =
    let part = c.faulty_part-part in
    let at = stands c.args.sheet.now c.args.places part.result part.ensures in
    omega (arith, at.within)

pub returns-clause-bytes : goal.returns-clause-bytes
returns-clause-bytes c =
    let part = c.faulty_part-part in
    let at = stands c.args.sheet.now c.args.places part.result part.ensures in
    let count : part.result.start + part.result.count - part.result.start ≡ part.result.count = omega arith in
    rw count at.bytes
