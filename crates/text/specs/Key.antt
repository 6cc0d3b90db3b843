-- Keys: "Keys and the order of keys are fixed, byte for byte" (the requirements; MANUAL 2.1).
use Rattle.std.specs.Prelude.{ℕ, ◌+◌, List, [], ◌∷◌, Bool, true, false, ◌&&◌, length, drop, eqb, Option, None}
use Rattle.text.specs.declared.Numeral.{Numeral}
use Rattle.text.specs.Number.{number_at}

-- the bytes begin with the key's
unfoldable pub starts_with : List ℕ → List ℕ → Bool
starts_with text [] = true
starts_with [] (k ∷ key) = false
starts_with (t ∷ text) (k ∷ key) = eqb t k && starts_with text key

-- the key's bytes stand at a place of the text
abbrev pub key_at : List ℕ → ℕ → List ℕ → Bool
key_at text at key = starts_with (drop at text) key

abbrev pub when_key : Bool → Option Numeral → Option Numeral
when_key true n = n
when_key false n = None

-- a key at a place and then a number
unfoldable pub field_at : List ℕ → ℕ → List ℕ → ℕ → Option Numeral
field_at text at key bound = when_key (key_at text at key) (number_at text (at + length key) bound)
