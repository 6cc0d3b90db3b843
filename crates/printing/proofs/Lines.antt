-- A line by the words that the code has.
use Prim.Native.Nat.{ℕ, ◌/◌, ◌%◌}
use Prim.Native.String.{String}
use mathlib.Core.Path.{◌≡◌, refl}
use Rattle.text.specs.Bytes.{bytes_of}
use Rattle.printing.specs.Lines.{message_line}
use Rattle.printing.specs.Inner.Rows.{row_bytes, words_row}

-- a message's words give its line
pub words_line : (key : String) (w number phase : ℕ) → words_row (bytes_of key) w number phase ≡ message_line key (w % 64) (w / 64 % 64) number phase
unfolding words_row row_bytes message_line
words_line key w number phase = refl
