-- Where words are not all numbers, the first that is none stands behind words that are; and with 24 the words of the line that is named are
-- not all numbers.
use mathlib.Core.Path.{◌≡◌, refl, ap}
use mathlib.Core.Bool.{Bool, cond}
use mathlib.Core.List.{List, [], ◌∷◌}
use mathlib.Core.Option.{Option, none, some}
use Prim.Native.Nat.{ℕ}
use lib.IntN.{ℤ}
use Rattle.text.specs.Lines.{line_at}
use Rattle.text.specs.Numbers.{number}
use Rattle.lines.specs.Line.{both, all_numbers, number_words, signs_on}
use Rattle.grammar.proofs.Taken.{names_faulty_line}
use Rattle.fault.specs.Call.{is_none, first_no_number}
use Rattle.fault.specs.First.{FirstFaulty, HandsBackFirstFaulty}

abbrev FirstIfAny : Bool → List (List ℕ) → List ℕ → Option (List ℤ) → Type 0
FirstIfAny signs ws word none = FirstFaulty signs ws word
FirstIfAny signs ws word (some zs) = Unit {0}

first_if_any : (signs : Bool) (ws : List (List ℕ)) → FirstIfAny signs ws (first_no_number signs ws) (all_numbers signs ws)
unfolding all_numbers first_no_number
first_if_any signs [] = tt
first_if_any signs (w ∷ ws) = by (number signs w) refl (all_numbers signs ws) (first_if_any signs ws)
  where
    by : (z : Option ℤ) → number signs w ≡ z → (zs : Option (List ℤ)) → FirstIfAny signs ws (first_no_number signs ws) zs
        → FirstIfAny signs (w ∷ ws) (cond (is_none z) w (first_no_number signs ws)) (both z zs)
    by none e zs f = record { earlier = []; later = ws; stands = refl; values = []; are_numbers = refl; is_no_number = e }
    by (some z) e none f = record {
      earlier = w ∷ f.earlier;
      later = f.later;
      stands = ap (λ (vs : List (List ℕ)). w ∷ vs) f.stands;
      values = z ∷ f.values;
      are_numbers = rw (e, f.are_numbers);
      is_no_number = f.is_no_number;
    }
    by (some z) e (some zs) f = tt

pub hands_back_first_faulty : HandsBackFirstFaulty
hands_back_first_faulty places s n e =
    let line = line_at n s in
    rw e (rw (names_faulty_line places s n e) at (first_if_any (signs_on line) (number_words line)))
