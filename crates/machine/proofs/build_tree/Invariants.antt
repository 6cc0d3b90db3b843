-- `machine::build_tree` meets its contract: the leaves of the processes before the z-th are there.
use Rattle.machine.specs.Inner.Tree.{Tree, LeavesHold}
use Rattle.machine.proofs.build_tree.Given as goal

abbrev pub invariant-loop-z : goal.invariant-loop-z
invariant-loop-z l = Tree l.tree × LeavesHold l.full l.area l.tree l.z
