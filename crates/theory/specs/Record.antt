-- The delivery record of a replay and of the run without failure (MANUAL 5.6), by lists. Quotations are from the
-- requirements: "The delivery record has one list for each channel: number and value of each message its receiver
-- received there, in that order."
use Rattle.std.specs.Prelude.{◌≡◌, List, map, ℕ}
use Rattle.theory.specs.Events.{size, value}
use Rattle.theory.specs.Line.{Run}
use Rattle.theory.specs.Replay.{State, taken_by}

module _ (R : Run) where
  -- "number and value of each message its receiver received there, in that order"
  abbrev pub entry : ℕ → ℕ → ℕ → ℕ × ℕ
  entry p q k = (k, value R.trace p q k)

  -- the delivery record of a channel in a replay: "its receives before its restart, as in the trace, then those the
  -- order did"
  unfoldable pub delivered : State → ℕ → ℕ → List (ℕ × ℕ)
  delivered s p q = map (entry p q) (s.got p q)

  -- "In the run without failure these are its receives in the whole trace, those after the cut too."
  unfoldable pub faultless : ℕ → ℕ → List (ℕ × ℕ)
  faultless p q = map (entry p q) (taken_by R p q (size R.trace))

  -- "Two records are equal when they have the same list for every channel."
  abbrev pub SameRecord : State → Type 0
  SameRecord s = (p q : ℕ) → delivered s p q ≡ faultless p q
