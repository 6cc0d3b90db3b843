-- What is promised of reading (crate reader, specs/Meaning), of what a caller gets: the number r that is returned, and
-- a slice that begins with the place and, of a text with a failure line, its step and its set.
use Rattle.std.specs.Prelude.{ℕ, ◌≡◌, List, ◌∷◌}
use Rattle.reader.specs.Meaning.{ReadRefuses, FailureTold, FailureRefuses}

abbrev pub ReadRefusesIn : List ℕ → ℕ → ℕ → List ℕ → Type 0
ReadRefusesIn text size r answer = (place : ℕ) (rest : List ℕ) → answer ≡ place ∷ rest → ReadRefuses text size (record { number = r; place = place })

abbrev pub FailureToldIn : List ℕ → ℕ → List ℕ → Type 0
FailureToldIn text r answer =
    (place step set : ℕ) (rest : List ℕ) → answer ≡ place ∷ step ∷ set ∷ rest → FailureTold text (record { number = r; place = place; step = step; set = set })

abbrev pub FailureRefusesIn : List ℕ → ℕ → ℕ → List ℕ → Type 0
FailureRefusesIn text size r answer =
    (place step set : ℕ) (rest : List ℕ) → answer ≡ place ∷ step ∷ set ∷ rest
    → FailureRefuses text size (record { number = r; place = place; step = step; set = set })
