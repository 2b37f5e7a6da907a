-- What a line that is read tells the cursor: how it was read, and that fewer bytes are left, since the line has an end.
use mathlib.Core.Path.{◌≡◌}
use mathlib.Core.Bool.{Bool}
use mathlib.Core.List.{List}
use Prim.Native.Nat.{ℕ, ◌<◌}
use native.Mathlib.Omega.{arith}
use lib.IntN.{ℤ}
use lib.ListN.{length, length-append}
use Rattle.std.specs.Prelude.{Result, Ok, Err}
use Rattle.text.specs.LineText.{line_text}
use Rattle.lines.specs.declared.Reason.{Reason}
use Rattle.lines.proofs.LineParsed.{line_parsed}
use Rattle.lines.proofs.GoodLine.{GoodLine}
use Rattle.sheet.specs.Due.{placed}

pub read_ok : {A : Type 0} (n : ℕ) (read : Result A Reason) (value : A) → placed n read ≡ Ok value → read ≡ Ok value
read_ok n (Ok x) value e = cc
read_ok n (Err reason) value e = absurd (cc)

pub shorter : {signs : Bool} {keyword s : List ℕ} {zs : List ℤ} {rest : List ℕ} → GoodLine signs keyword s zs rest
    → length rest < length s
unfolding line_text
shorter {signs} {keyword} {s} {zs} {rest} good =
    rw (line_parsed signs keyword (length zs) s zs rest good.gives).text (simp length-append (omega arith))
