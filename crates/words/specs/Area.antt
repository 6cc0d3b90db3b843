-- What a lent area holds.
use Rattle.std.specs.Prelude.{ℕ, zero, suc, List, [], ◌∷◌, ◌++◌, drop}

-- how many words of a lent area are used
abbrev pub area_words : ℕ
area_words = 16384

-- n words by a rule, from place i on: f i, f (i + 1), ..
unfoldable pub words_from : (ℕ → ℕ) → ℕ → ℕ → List ℕ
words_from f i zero = []
words_from f i (suc n) = f i ∷ words_from f (suc i) n

-- the area with its first n words by a rule, every later word as it was
unfoldable pub ruled : (ℕ → ℕ) → ℕ → List ℕ → List ℕ
ruled f n a = words_from f 0 n ++ drop n a
