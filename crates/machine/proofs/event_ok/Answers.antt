-- `machine::event_ok` meets its contract: a case for each kind of event.
use mathlib.Core.Path.{◌≡◌, ap}
use native.Mathlib.Omega.{arith}
use Rattle.trace.specs.Kind.{number_of_kind}
use Rattle.machine.proofs.Steps.{kind_send, kind_receive, event_send, event_recv, event_other}
use Rattle.machine.proofs.event_ok.Goals as goal

pub returns-in-Send : goal.returns-in-Send
returns-in-Send c =
    event_send _ _ _ _ _ _ _ c.of.ensures c.peer-peer.ensures.0 _ _ (ap number_of_kind c.in-Send.is) c.pointer.ensures.word c.send_ok.ensures

pub returns-in-Receive : goal.returns-in-Receive
returns-in-Receive c =
    let k : number_of_kind c.of.result ≡ 2 = ap number_of_kind c.in-Receive.is in
    event_recv _ _ _ _ _ _ _ c.of.ensures c.peer-peer.ensures.0 (λ q. omega (arith, k, q)) k

pub returns-in_default : goal.returns-in_default
returns-in_default c =
    event_other _ _ _ _ _ _ _ c.of.ensures c.peer-peer.ensures.0 (λ q. c.in_default.not-Send (kind_send c.of.result q)) (λ q. c.in_default.not-Receive (kind_receive c.of.result q))
