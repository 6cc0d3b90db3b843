-- `orders::carry_out` meets its contract: what is still to do of the order comes to what the whole of it does, for
-- every run that the words stand for.
use mathlib.Core.Path.{◌≡◌}
use Prim.Native.Nat.{◌≤◌}
use lib.ListN.{length}
use Rattle.theory.specs.Line.{Run}
use Rattle.theory.specs.Order.{run}
use Rattle.machine.specs.Inner.Related.{Started}
use Rattle.machine.specs.Inner.Tree.{Treed}
use Rattle.orders.specs.Inner.Left.{Live}
use Rattle.orders.proofs.carry_out.Given as goal

abbrev pub invariant-loop-c : goal.invariant-loop-c
invariant-loop-c l = record {
  counted : l.steps ≡ l.c-index;
  within : l.steps ≤ length l.order;
  area_long : length l.area ≡ length l.initial.area;
  treed : Treed l.full l.area l.tree;
  live : (R : Run) → Started R l.full l.links l.gates l.initial.area → Live R l.area l.steps l.order (run R l.order);
}
