-- `lowering::lower` meets its contract: the events after the newest that are left are undone and settled, and no
-- process outside of the pending ones has another to look at; each look takes from the sum of what is left, and where
-- there is none, a process leaves.
use Prim.Native.Nat.{ℕ, ◌+◌, ◌*◌, ◌^◌, ◌<◌}
use Rattle.recovery_line.specs.Inner.Words.{Sized}
use Rattle.positions.specs.Inner.Positions.{Linked}
use Rattle.lowering.proofs.Worklist.{Working, sum_l}
use Rattle.lowering.proofs.lower.Given as goal

abbrev pub invariant-loop-pending : goal.invariant-loop-pending
invariant-loop-pending l = (l.pending < 2 ^ 64) × ((cut : ℕ) → Sized l.full cut → Linked l.full cut l.earlier l.initial.latest → Working l.full l.finished cut l.initial.epochs l.epochs l.latest l.pending)

abbrev pub decreases-loop-pending : goal.decreases-loop-pending
decreases-loop-pending l = sum_l l.latest * 2 ^ 64 + l.pending
