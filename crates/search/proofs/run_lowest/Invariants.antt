-- `search::run_lowest` meets its contract: what was taken from the set may not run.
use mathlib.Core.Path.{◌≡◌}
use Prim.Native.Nat.{◌^◌, ◌≤◌, ◌<◌}
use Rattle.search.specs.Inner.Lowest.{Idle}
use Rattle.search.proofs.run_lowest.Given as goal

abbrev pub invariant-loop-left : goal.invariant-loop-left
invariant-loop-left l = (l.left < 2 ^ 64) × (l.left ≤ l.may) × (l.area ≡ l.initial.area) × (l.tree ≡ l.initial.tree) × Idle l.full l.gates l.initial.area l.left

abbrev pub decreases-loop-left : goal.decreases-loop-left
decreases-loop-left l = l.left
