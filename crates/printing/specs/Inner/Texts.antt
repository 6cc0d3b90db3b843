-- Texts of whole lines.
use Rattle.std.specs.Prelude.{List, [], ◌∷◌, ◌++◌, ℕ}
use Prim.Native.String.{String}
use Rattle.text.specs.Bytes.{bytes_of}

-- "Lines end with LF (byte 10)." (the requirements; MANUAL 2.1)
unfoldable pub lines_of : List String → List ℕ
lines_of [] = []
lines_of (l ∷ ls) = bytes_of l ++ 10 ∷ lines_of ls
