-- `search::next_hand` meets its contract: no kept message of a sender that is not left so far.
use mathlib.Core.Path.{◌≡◌}
use Prim.Native.Nat.{◌^◌, ◌<◌}
use lib.ListN.{length}
use Rattle.machine.specs.Inner.Words.{low_w}
use Rattle.search.specs.Inner.Lowest.{Waiting, Unready}
use Rattle.search.proofs.next_hand.Given as goal

abbrev pub invariant-loop-left : goal.invariant-loop-left
invariant-loop-left l = (l.left < 2 ^ 64) × Waiting l.full l.gates l.area (low_w l.area) l.left × (length l.ready ≡ 64) × Unready l.full l.gates l.area (low_w l.area) l.ready

abbrev pub decreases-loop-left : goal.decreases-loop-left
decreases-loop-left l = l.left
