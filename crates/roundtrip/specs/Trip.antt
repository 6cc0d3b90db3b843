-- A text that comes back.
use Rattle.std.specs.Prelude.{ℕ, Bool, ◌&&◌, List, length, eqb}
use Rattle.text.specs.Key.{key_at}
use Rattle.rendering.specs.Write.{write_answer, write_buffer}

-- writing the trace of an area into a buffer gives a text: its length is answered, and its bytes stand at the front
unfoldable pub comes_back : List ℕ → List ℕ → List ℕ → Bool
comes_back a text out = eqb (write_answer a (length out)).length (length text) && key_at (write_buffer a out) 0 text
