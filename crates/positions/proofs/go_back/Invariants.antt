-- `positions::go_back` meets its contract: after each step the events after e are undone, and `first` is the first of
-- them.
use Prim.Native.Nat.{ℕ}
use mathlib.Core.List.{List}
use Rattle.positions.specs.Inner.Positions.{Newest, Linked}
use Rattle.positions.proofs.Walking.{Walking}
use Rattle.positions.proofs.go_back.Given as goal

abbrev pub invariant-loop-e : goal.invariant-loop-e
invariant-loop-e l = (cut z : ℕ) (latest : List ℕ) → Linked l.full cut l.earlier latest → Newest l.full z cut l.newest → Walking l.full cut z l.number l.e l.first

abbrev pub decreases-loop-e : goal.decreases-loop-e
decreases-loop-e l = l.e
