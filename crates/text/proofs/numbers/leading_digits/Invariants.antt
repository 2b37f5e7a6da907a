-- The loop's invariant: what has come is the first of the digits, and so many; they stand for the value.
use Rattle.std.proofs.Common.{◌≡◌, length, take}
use mathlib.Core.List.{map}
use Rattle.text.specs.Numbers.{value}
use Rattle.text.specs.Leading.{leading_digits}
use Rattle.text.proofs.numbers.leading_digits.Given as goal

abbrev pub invariant-loop-b : goal.invariant-loop-b
invariant-loop-b l =
    let w = map (λ b. b.now) l.yielded in
    record { counted : l.count ≡ length w; stand : l.value ≡ value w; front : w ≡ take (length w) (leading_digits 10 l.s) }
