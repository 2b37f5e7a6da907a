-- The keywords of a sheet: "Lines in order: `LAW k D`; k lines `TERM A B`; `START s t`; `LAST X`; `ZERO w`; `SEVERITY m`; m lines `W w`."
use Rattle.std.specs.Prelude.{List, ℕ}
use Rattle.text.specs.Bytes.{ascii}

abbrev pub LAW : List ℕ
LAW = ascii "LAW"

abbrev pub TERM : List ℕ
TERM = ascii "TERM"

abbrev pub START : List ℕ
START = ascii "START"

abbrev pub LAST : List ℕ
LAST = ascii "LAST"

abbrev pub ZERO : List ℕ
ZERO = ascii "ZERO"

abbrev pub SEVERITY : List ℕ
SEVERITY = ascii "SEVERITY"

abbrev pub W : List ℕ
W = ascii "W"
