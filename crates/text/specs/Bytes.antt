-- Plain text as bytes, so that keywords and sheets are written as they stand in the paper.
use Rattle.std.specs.Prelude.{ℕ, List, [], ◌∷◌}
use Prim.Native.Char.{code}
use Prim.Native.String as S
use Prim.Native.String.{String}

-- the bytes of a text of plain ASCII
abbrev pub ascii : String → List ℕ
ascii S.[] = []
ascii (S.◌∷◌ c text) = code c ∷ ascii text

abbrev pub line_end : ℕ
line_end = 0x0A

abbrev pub space : ℕ
space = 0x20
