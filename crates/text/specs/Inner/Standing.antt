-- Bytes that stand in a text between two places, for who looks at a text without knowing yet where its line ends.
use Rattle.std.specs.Prelude.{ℕ, ◌+◌, ◌≤◌, ◌≡◌, List, ◌++◌, Bool, false, length, drop, Option, Some, None}
use Rattle.text.specs.declared.Numeral.{Numeral}
use Rattle.text.specs.Number.{decimal}

-- the bytes x stand from a place on, and end before the place `next`
pub record Stands (text : List ℕ) (at : ℕ) (x : List ℕ) (next : ℕ) : Type 0 where
  pub bytes : drop at text ≡ x ++ drop next text
  pub size : next ≡ at + length x

-- the decimal of a number stands at a place; the number is at most `most` and has at most `room` digits
abbrev pub NumberStands : List ℕ → ℕ → ℕ → ℕ → ℕ → ℕ → Type 0
NumberStands text at most room v p = Stands text at (decimal v) p × (v ≤ most) × (p ≤ at + room)

-- a number that was found at a place stands there; none is found only where none begins
abbrev pub Written : List ℕ → ℕ → ℕ → ℕ → Bool → Option Numeral → Type 0
Written text at most room begins (Some n) = NumberStands text at most room n.value n.end
Written text at most room begins None = begins ≡ false
