-- The same lines from the words that the code has. No public contract cites these.
use Rattle.std.specs.Prelude.{List, [], ◌∷◌, ◌++◌, ℕ, ◌/◌, ◌%◌}
use Rattle.text.specs.Number.{decimal}
use Rattle.text.specs.Bytes.{bytes_of}

-- four keys with their numbers
unfoldable pub row_bytes : List ℕ → ℕ → List ℕ → ℕ → List ℕ → ℕ → List ℕ → ℕ → List ℕ
row_bytes key a second b third c fourth d = key ++ decimal a ++ (second ++ decimal b ++ (third ++ decimal c ++ (fourth ++ decimal d ++ (10 ∷ []))))

-- the line of a message, from its first key and its three words
unfoldable pub words_row : List ℕ → ℕ → ℕ → ℕ → List ℕ
words_row key w number phase = row_bytes key (w % 64) (bytes_of " to=") (w / 64 % 64) (bytes_of " no=") number (bytes_of " phase=") phase
