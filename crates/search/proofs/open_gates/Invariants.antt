-- `search::open_gates` meets its contract: of the shut gates those that were looked at are open or shut still.
use Prim.Native.Nat.{◌^◌, ◌<◌}
use Rattle.search.specs.Inner.Opened.{GatesOpened}
use Rattle.search.proofs.open_gates.Given as goal

abbrev pub invariant-loop-left : goal.invariant-loop-left
invariant-loop-left l = (l.left < 2 ^ 64) × GatesOpened l.gates l.low l.o.may l.o.shut l.left l.may l.shut l.gate

abbrev pub decreases-loop-left : goal.decreases-loop-left
decreases-loop-left l = l.left
