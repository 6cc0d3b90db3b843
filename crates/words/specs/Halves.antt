-- A number of 64 bits in two words.
use Rattle.std.specs.Prelude.{ℕ, zero, suc, ◌+◌, ◌*◌, ◌/◌, ◌%◌}

-- half 0 has its low 32 bits, half 1 its high ones
unfoldable pub half : ℕ → ℕ → ℕ
half zero v = v % 4294967296
half (suc b) v = v / 4294967296 % 4294967296

-- the number whose halves these are
abbrev pub from_halves : ℕ → ℕ → ℕ
from_halves low high = low + 4294967296 * high
