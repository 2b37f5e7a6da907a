-- Where the faulty word stands: on its line the words follow each other, one space apart, and the line is a part of the sheet.
use mathlib.Core.Path.{◌≡◌, refl, sym, ap, ◌∙◌}
use mathlib.Core.Bool.{Bool, true, false, cond}
use mathlib.Core.List.{List, [], ◌∷◌, ◌++◌, append_assoc}
use mathlib.Core.Option.{Option, none, some, none-ne-some}
use Prim.Native.Nat.{ℕ, ◌+◌, ◌-◌}
use native.Mathlib.Omega.{arith}
use lib.Dec.{eqb}
use lib.IntN.{ℤ}
use lib.ListN.{length, take, drop, get_or, length-append, length-drop, take-append-drop}
use lib.Seq.{length-take-le, take-append-le, drop-append-le, take-append_seam, drop-append-add}
use Rattle.text.specs.Bytes.{space, line_end}
use Rattle.text.specs.Lines.{before, after_lines, spaced, words, line_at, line_start}
use Rattle.text.specs.Numbers.{number}
use Rattle.text.proofs.Scan.{before_take, line_starts, words_split}
use Rattle.text.proofs.Words.{words_joined}
use Rattle.lines.specs.Line.{both, all_numbers, keyword_of, number_words, signs_on}
use Rattle.grammar.specs.Reading.{Reading, reads, refuses, reading}
use Rattle.fault.specs.declared.Part.{Part}
use Rattle.fault.specs.Call.{is_none, first_no_number, fault_on, word_of, faulty_word}
use Rattle.fault.specs.Call.{part_of, no_part, first_part, part_on, from, part_at, part_in}
use Rattle.fault.specs.First.{PartIs, FaultyPartIsWord, FaultyPartBegins}

-- ---- a part of a text's front, and of its back
in_front : (part : Part) (s t word : List ℕ) → PartIs part s word → PartIs part (s ++ t) word
in_front part s t word h = record {
  within = simp length-append (omega (arith, h.within));
  bytes = ap (take part.count) (drop-append-le part.start s t (omega (arith, h.within)))
      ∙ take-append-le part.count (drop part.start s) t (rw (length-drop part.start s) (omega (arith, h.within)))
      ∙ h.bytes;
}

in_back : (part : Part) (s t word : List ℕ) → PartIs part t word → PartIs (from (length s) part) (s ++ t) word
in_back part s t word h = record {
  within = simp length-append (omega (arith, h.within));
  bytes = ap (take part.count) (drop-append-add s t part.start) ∙ h.bytes;
}

-- an empty part
nothing : (s : List ℕ) → PartIs no_part s []
nothing s = record { within = omega arith; bytes = refl }

-- ---- on a line
-- the words ws, with a space before each, after a front
word_stands : (signs : Bool) (front : List ℕ) (ws : List (List ℕ))
    → PartIs (first_part signs (length front + 1) ws) (front ++ spaced ws) (first_no_number signs ws)
unfolding first_part first_no_number spaced
word_stands signs front [] = nothing (front ++ [])
word_stands signs front (w ∷ ws) = by (is_none (number signs w)) (rw (longer, same_text) at (word_stands signs (front ++ (space ∷ w)) ws))
  where
    longer : length (front ++ (space ∷ w)) + 1 ≡ length front + 1 + length w + 1
    longer = simp length-append (omega arith)

    same_text : (front ++ (space ∷ w)) ++ spaced ws ≡ front ++ (space ∷ (w ++ spaced ws))
    same_text = append_assoc front (space ∷ w) (spaced ws)

    here : PartIs (part_of 1 (length w)) (space ∷ (w ++ spaced ws)) w
    here = record { within = simp length-append (omega arith); bytes = take-append_seam w (spaced ws) }

    by : (t : Bool) {part : Part} {word : List ℕ} → PartIs part (front ++ (space ∷ (w ++ spaced ws))) word
        → PartIs (cond t (part_of (length front + 1) (length w)) part) (front ++ (space ∷ (w ++ spaced ws))) (cond t w word)
    by true later = in_back (part_of 1 (length w)) front (space ∷ (w ++ spaced ws)) w here
    by false later = later

-- a line is its keyword and the other words, with a space before each
on_line : (line : List ℕ) → PartIs (part_on line) line (fault_on line)
on_line line = rw (sym joined) at (word_stands (signs_on line) (keyword_of line) (number_words line))
  where
    cut : words line ≡ keyword_of line ∷ number_words line
    cut = words_split line ∙ sym (ap (λ (ws : List (List ℕ)). get_or ws 0 [] ∷ drop 1 ws) (words_split line))

    joined : line ≡ keyword_of line ++ spaced (number_words line)
    joined = words_joined line (keyword_of line) (number_words line) cut

-- ---- in the sheet
module _ (n : ℕ) (s : List ℕ) where
  abbrev rest : List ℕ
  rest = after_lines (n - 1) s

  abbrev line : List ℕ
  line = before line_end rest

  abbrev earlier : List ℕ
  earlier = take (line_start n s) s

  abbrev later : List ℕ
  later = drop (length line) rest

  line_and_later : line ++ later ≡ rest
  line_and_later = ap (λ (l : List ℕ). l ++ later) (sym (before_take line_end rest)) ∙ take-append-drop (length line) rest

  earlier_length : length earlier ≡ line_start n s
  earlier_length = length-take-le (line_start n s) s (omega arith)

  earlier_and_rest : earlier ++ rest ≡ s
  earlier_and_rest = ap (λ (l : List ℕ). earlier ++ l) (sym (line_starts n s)) ∙ take-append-drop (line_start n s) s

  pub in_sheet : PartIs (part_at n s) s (fault_on line)
  in_sheet =
      let in_rest = rw line_and_later at (in_front (part_on line) line later (fault_on line) (on_line line)) in
      rw (earlier_length, earlier_and_rest) at (in_back (part_on line) earlier rest (fault_on line) in_rest)

pub faulty_part_is_word : FaultyPartIsWord
faulty_part_is_word places s = by (reading places s)
  where
    by : (r : Reading) → PartIs (part_in r s) s (word_of r s)
    by (reads sheet) = nothing s
    by (refuses number line) = of_number (eqb number 24)
      where
        of_number : (t : Bool) → PartIs (cond t (part_at line s) no_part) s (cond t (fault_on (line_at line s)) [])
        of_number true = in_sheet line s
        of_number false = nothing s

-- ---- where it begins
-- the words before the first faulty one are passed over
begins : (signs : Bool) (at : ℕ) (earlier later : List (List ℕ)) (word : List ℕ) (values : List ℤ)
    → all_numbers signs earlier ≡ some values → number signs word ≡ none
    → (first_part signs at (earlier ++ (word ∷ later))).start ≡ at + length (spaced earlier)
unfolding first_part all_numbers spaced
begins signs at [] later word values h e = rw e (omega arith)
begins signs at (w ∷ ws) later word values h e =
    by (number signs w) (all_numbers signs ws) refl h (λ zs g. begins signs (at + length w + 1) ws later word zs g e)
  where
    next : Part
    next = first_part signs (at + length w + 1) (ws ++ (word ∷ later))

    by : (z : Option ℤ) (zs : Option (List ℤ)) → all_numbers signs ws ≡ zs → both z zs ≡ some values
        → ((vs : List ℤ) → all_numbers signs ws ≡ some vs → next.start ≡ at + length w + 1 + length (spaced ws))
        → (cond (is_none z) (part_of at (length w)) next).start ≡ at + length (space ∷ (w ++ spaced ws))
    by none zs g f ih = absurd (none-ne-some values f)
    by (some z) none g f ih = absurd (none-ne-some values f)
    by (some z) (some zs) g f ih = ih zs g ∙ simp length-append (omega arith)

pub faulty_part_begins : FaultyPartBegins
faulty_part_begins places s n e first =
    let line = line_at n s in
    let found = begins (signs_on line) (length (keyword_of line) + 1) first.earlier first.later (faulty_word places s) first.values
    first.are_numbers first.is_no_number in
    rw (e, first.stands) (simp length-append (omega (arith, found)))
