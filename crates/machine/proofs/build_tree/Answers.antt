use Rattle.machine.proofs.Tree.{tree_none, leaves_none, leaves_next}
use Rattle.machine.proofs.build_tree.Goals as goal

pub loop-z-init : goal.loop-z-init
loop-z-init c = (tree_none _ c.requires.2, leaves_none _ _ _ c.requires.2)

pub loop-z-preserved : goal.loop-z-preserved
loop-z-preserved c =
    (c.set_orphan.ensures.tree, leaves_next _ _ _ _ _ _ c.pointer.ensures.word c.loop-z.invariant.1 c.set_orphan.ensures)
