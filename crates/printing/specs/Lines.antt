-- The lines that the program prints (MANUAL 8.2), each from its numbers. Quotations are from the requirements.
use Rattle.std.specs.Prelude.{List, [], ◌∷◌, ◌++◌, ℕ}
use Prim.Native.String.{String}
use Rattle.text.specs.Number.{decimal}
use Rattle.text.specs.Bytes.{bytes_of}

-- ---- What the program prints

-- a key and its number, before the rest of a line
abbrev pub pair : String → ℕ → List ℕ → List ℕ
pair key n rest = bytes_of key ++ decimal n ++ rest

unfoldable pub process_line : ℕ → ℕ → ℕ → ℕ → List ℕ
process_line at epoch restart phase = pair "out=proc at=" at (pair " epoch=" epoch (pair " restart=" restart (pair " phase=" phase (10 ∷ []))))

unfoldable pub message_line : String → ℕ → ℕ → ℕ → ℕ → List ℕ
message_line key from to number phase = pair key from (pair " to=" to (pair " no=" number (pair " phase=" phase (10 ∷ []))))

unfoldable pub total_line : ℕ → ℕ → ℕ → ℕ → List ℕ
total_line back orphans kept steps = pair "out=total back=" back (pair " orphans=" orphans (pair " kept=" kept (pair " steps=" steps (10 ∷ []))))

unfoldable pub refusal_line : ℕ → ℕ → List ℕ
refusal_line number place = pair "refused=" number (pair " place=" place (10 ∷ []))

-- "Orphans, then kept messages"
abbrev pub key_orphan : String
key_orphan = "out=orphan from="

abbrev pub key_kept : String
key_kept = "out=kept from="
