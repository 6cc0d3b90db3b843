use mathlib.Core.Path.{refl}
use Rattle.machine.proofs.Tree.{climb_first, climb_next, climb_stop, climb_top}
use native.Mathlib.Omega.{arith}
use Rattle.machine.proofs.set_leaf.Goals as goal

pub loop-i-init : goal.loop-i-init
loop-i-init c =
    climb_first _ _ _ c.requires.0 c.requires.1

pub returns-then-tree-i : goal.returns-then-tree-i
returns-then-tree-i c =
    climb_top _ _ _ c.requires.0 c.requires.1 _ _ (climb_stop _ _ _ c.loop-i.invariant (omega arith) _ c.min-least.ensures c.if-tree-i.true) refl

pub loop-i-preserved : goal.loop-i-preserved
loop-i-preserved c =
    climb_next _ _ _ c.loop-i.invariant (omega arith) _ c.min-least.ensures
