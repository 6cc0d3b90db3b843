-- The line at a place of a text: what it says, and where the next one begins.
use Rattle.std.specs.Prelude.{ℕ, ◌+◌, ◌-◌, ◌≡◌, List, take, drop, get_or, Option, Some, None, option_map}
use Rattle.text.specs.declared.Numeral.{Numeral}
use Rattle.text.specs.Inner.Line.{line_end}
use Rattle.text.specs.Inner.Standing.{NumberStands}
use Rattle.lines.specs.declared.Line.{Line}
use Rattle.lines.specs.Line.{line_said}

-- by the place of its LF
unfoldable pub next_line : List ℕ → ℕ → Option (Line × ℕ)
next_line text at = option_map (λ i. (line_said (take (i - at) (drop at text)), i + 1)) (line_end text at)

-- what a quick look found is so; it may find nothing
abbrev pub Known : List ℕ → ℕ → Option (Line × ℕ) → Type 0
Known text at (Some found) = Some found ≡ next_line text at
Known text at None = Unit

-- a number of one or two digits that was found at a place stands there, and LF behind it; none may be found
abbrev pub ProcessEnds : List ℕ → ℕ → Option Numeral → Type 0
ProcessEnds text at (Some n) = NumberStands text at 99 2 n.value n.end × (get_or text n.end 0 ≡ 10)
ProcessEnds text at None = Unit
