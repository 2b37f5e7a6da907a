-- The first of four terms that is wrong, by cases on the four.
use Rattle.std.proofs.Common.{◌≡◌, ℕ, suc, ◌<◌, Bool, true, false, cond, Option, Some, None, refl, arith}
use Rattle.std.specs.List.{find, range_with_len}
use Rattle.std.specs.Option.{SomeIff}
use Rattle.algebra.specs.Smallest.{smallest}

of_four : (a b c d : Bool) → let least = cond a 0 (suc (cond b 0 (suc (cond c 0 (suc (cond d 0 1)))))) in
    SomeIff (cond a (Some 0) (cond b (Some 1) (cond c (Some 2) (cond d (Some 3) None)))) (least < 4) least
of_four true b c d = (omega arith, refl)
of_four false true c d = (omega arith, refl)
of_four false false true d = (omega arith, refl)
of_four false false false true = (omega arith, refl)
of_four false false false false = λ h. omega arith

pub found : (test : ℕ → Bool) (r : Option ℕ) → r ≡ find test (range_with_len 0 4) → SomeIff r (smallest test 4 < 4) (smallest test 4)
unfolding smallest
found test r e = rw e (of_four (test 0) (test 1) (test 2) (test 3))
