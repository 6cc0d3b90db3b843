-- `machine::set_leaf` meets its contract: the words above the leaf follow, so far up to word i.
use Rattle.machine.proofs.Tree.{Climbing}
use Rattle.machine.proofs.set_leaf.Given as goal

abbrev pub invariant-loop-i : goal.invariant-loop-i
invariant-loop-i l = Climbing l.initial.tree l.tree l.i

abbrev pub decreases-loop-i : goal.decreases-loop-i
decreases-loop-i l = l.i
