-- Rows of cases: the place of a byte, the fields of a row, with a blank between two, and the number a field begins
-- with.
use Rattle.std.specs.Prelude.{Option, option_map, ℕ, zero, suc, ◌+◌, ◌-◌, ◌≤◌, ◌≡◌, List, [], ◌∷◌, cond, ltb, eqb, length, drop}
use Rattle.io.specs.Counts.{IsPrefixLen}
use Rattle.text.specs.declared.Numeral.{Numeral}
use Rattle.text.specs.Number.{number_at}

-- how many bytes stand before the first b
unfoldable pub before : ℕ → List ℕ → ℕ
before b [] = 0
before b (x ∷ xs) = cond (eqb x b) 0 (1 + before b xs)

-- the first b at or after a place, or the end
unfoldable pub row_place : ℕ → ℕ → List ℕ → ℕ
row_place b from xs = cond (ltb (length xs) from) (length xs) (from + before b (drop from xs))

-- it lies within the bytes, and not before the place (the difference is 0 where the place lies within them too)
pub record Place (b from : ℕ) (xs : List ℕ) (r : ℕ) : Type 0 where
  pub is : r ≡ row_place b from xs
  pub within : IsPrefixLen r xs
  pub onward : from ≤ r + (from - length xs)

-- where field k begins
unfoldable pub field_place : List ℕ → ℕ → ℕ
field_place row zero = 0
field_place row (suc k) = row_place 32 (field_place row k) row + 1

unfoldable pub number_in_row : List ℕ → ℕ → Option ℕ
number_in_row row k = option_map (λ n. n.value) (number_at row (field_place row k) 18446744073709551614)
