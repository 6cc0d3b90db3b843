-- More of lists of events.
use Rattle.std.specs.Prelude.{Bool, false, ◌||◌, List, [], ◌∷◌, ℕ, eqb}

-- is a number in the list
unfoldable pub has : ℕ → List ℕ → Bool
has k [] = false
has k (x ∷ xs) = eqb k x || has k xs

-- the first of a list of events, 0 where there is none
abbrev pub head0 : List ℕ → ℕ
head0 [] = 0
head0 (x ∷ xs) = x
