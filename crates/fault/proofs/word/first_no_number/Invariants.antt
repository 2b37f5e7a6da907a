-- The loop's invariant: the loop is over the words after the keyword, and the first faulty word of the line is that of the words still due, of which the first begins at `start`.
use mathlib.Core.Path.{◌≡◌}
use Prim.Native.Nat.{◌+◌}
use lib.ListN.{length, drop}
use Rattle.std.proofs.lemmas.Iterator.{YieldsList}
use Rattle.text.specs.Lines.{spaced}
use Rattle.lines.specs.Line.{keyword_of, number_words}
use Rattle.fault.specs.Call.{first_part}
use Rattle.fault.proofs.word.first_no_number.Given as goal

abbrev pub invariant-loop-word : goal.invariant-loop-word
invariant-loop-word l = record {
  pieces : YieldsList (goal.iterator-loop-word).next_gives (λ w. w.now) l.initial.word-iterator (number_words l.line);
  within : l.start + length (spaced (drop (length l.yielded) (number_words l.line))) ≡ length l.line + 1;
  due : first_part l.signs (length (keyword_of l.line) + 1) (number_words l.line)
      ≡ first_part l.signs l.start (drop (length l.yielded) (number_words l.line));
}
