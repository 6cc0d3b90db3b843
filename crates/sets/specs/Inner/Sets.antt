-- Sets of processes, as numbers of 64 bits: all of them, the first member, the set without it, the set with process z
-- (modulo 64).
use Rattle.std.specs.Prelude.{ℕ, ◌-◌, ◌%◌, ◌^◌, ◌<◌, ◌≤◌, ◌≡◌, true, false}
use Rattle.std.specs.Int.Bits.{bit_and, bit_or}
use Rattle.std.specs.Int.Count.{count_trailing_zeros}
use Rattle.theory.specs.Line.{in_set}

abbrev pub everyone : ℕ
everyone = 18446744073709551615

unfoldable pub first_in : ℕ → ℕ
first_in m = count_trailing_zeros 64 m

unfoldable pub rest_of : ℕ → ℕ
rest_of m = bit_and m (m - 1)

unfoldable pub with_in : ℕ → ℕ → ℕ
with_in m z = bit_or m (2 ^ (z % 64))

-- r is the first member of a set: it is one, and no process before it is; 64 where there is none
pub record FirstOf (m r : ℕ) : Type 0 where
  pub most : r ≤ 64
  pub member : r < 64 → in_set m r ≡ true
  pub before : (z : ℕ) → z < r → in_set m z ≡ false

-- what holds of every process that is no member of a set
abbrev pub Outside : (ℕ → Type 0) → ℕ → Type 0
Outside P m = (z : ℕ) → z < 64 → in_set m z ≡ false → P z
