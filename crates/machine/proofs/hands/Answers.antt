-- `machine::hands` meets its contract: a case for each way out.
use mathlib.Core.Path.{ap}
use Rattle.trace.specs.Kind.{number_of_kind}
use Rattle.machine.proofs.Steps.{kind_send}
use Rattle.machine.proofs.Remaining.{hands_other, hands_later, hands_now}
use Rattle.machine.proofs.hands.Goals as goal

pub returns-in_default : goal.returns-in_default
returns-in_default c =
    hands_other _ _ _ _ _ c.of.ensures (λ q. c.in_default.not-Send (kind_send c.of.result q))

pub returns-then-pointer-e : goal.returns-then-pointer-e
returns-then-pointer-e c =
    hands_later _ _ _ _ _ c.of.ensures _ _ (ap number_of_kind c.in-Send.is) c.process-p.ensures.0 c.peer.ensures.0 _ c.pointer.ensures.word c.if-pointer-e.true

pub returns : goal.returns
returns c =
    hands_now _ _ _ _ _ c.of.ensures _ _ (ap number_of_kind c.in-Send.is) c.process-p.ensures.0 c.peer.ensures.0 _ c.pointer.ensures.word _ c.if-pointer-e.false c.hand_ok.ensures
