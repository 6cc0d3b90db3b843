-- `search::next_receiver` meets its contract: no receiver that was looked at is ready.
use mathlib.Core.Path.{◌≡◌}
use Prim.Native.Nat.{◌+◌, ◌*◌, ◌^◌, ◌≤◌, ◌<◌}
use lib.ListN.{length}
use Rattle.machine.specs.Inner.Words.{low_w, kept_phase}
use Rattle.sets.specs.Inner.Sets.{Outside}
use Rattle.search.specs.Inner.Lowest.{Unready}
use Rattle.search.proofs.next_receiver.Given as goal

abbrev pub invariant-loop-left : goal.invariant-loop-left
invariant-loop-left l = (l.left < 2 ^ 64) × (length l.ready ≡ 64) × Unready l.full l.gates l.area (low_w l.area) l.ready × Outside (λ q. low_w l.area ≤ kept_phase l.full l.gates l.area l.p (64 * l.p + q)) l.left

abbrev pub decreases-loop-left : goal.decreases-loop-left
decreases-loop-left l = l.left
