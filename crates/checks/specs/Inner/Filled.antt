-- Rows of results: a pattern whose bytes `#` (35) stand for numbers.
use Rattle.std.specs.Prelude.{ℕ, ◌+◌, ◌-◌, ◌≤◌, List, [], ◌∷◌, ◌++◌, cond, eqb, length, get_or}
use Rattle.text.specs.Number.{decimal}
use Rattle.writer.specs.Inner.Puts.{Puts}

-- what a byte of a pattern stands for where v is the next value
unfoldable pub piece : ℕ → ℕ → List ℕ
piece b v = cond (eqb b 35) (decimal v) (b ∷ [])

-- how many values it takes
unfoldable pub takes : ℕ → ℕ
takes b = cond (eqb b 35) 1 0

-- the bytes of a pattern of which value k is the next; 0 past the last value
unfoldable pub filled : List ℕ → List ℕ → ℕ → List ℕ
filled [] values k = []
filled (b ∷ pattern) values k = piece b (get_or values k 0) ++ filled pattern values (k + takes b)

-- they are written from a place of a buffer on, and the place after them lies within it where that place does (the
-- difference is 0 then)
pub record Fills (pattern values before : List ℕ) (at : ℕ) (after : List ℕ) (next : ℕ) : Type 0 where
  pub is : Puts (filled pattern values 0) before at after next
  pub within : next ≤ length after + (at - length before)
