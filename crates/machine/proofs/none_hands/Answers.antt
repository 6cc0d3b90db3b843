use mathlib.Core.Path.{refl}
use Rattle.theory.specs.Lists.{all_below}
use Rattle.machine.specs.Inner.Words.{none_hands}
use Rattle.machine.proofs.Remaining.{hands_next, hands_one}
use Rattle.machine.proofs.none_hands.Goals as goal

pub loop-e-init : goal.loop-e-init
unfolding none_hands all_below
loop-e-init c = refl

pub returns-then-hands : goal.returns-then-hands
returns-then-hands c =
    hands_one _ _ _ _ _ c.hands.ensures _ c.loop-e-test.true c.if-hands.true

pub loop-e-preserved : goal.loop-e-preserved
loop-e-preserved c =
    hands_next _ _ _ _ _ c.hands.ensures c.loop-e.invariant c.if-hands.false
