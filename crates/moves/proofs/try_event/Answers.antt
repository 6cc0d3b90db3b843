-- `moves::try_event` meets its contract: a case for each kind of event.
use mathlib.Core.Path.{sym, ◌∙◌, ap}
use native.Mathlib.Omega.{arith}
use Rattle.trace.specs.Kind.{number_of_kind}
use Rattle.machine.proofs.Steps.{kind_send, kind_receive}
use Rattle.moves.proofs.Steps.{other_yes}
use Rattle.moves.proofs.try_event.Goals as goal

pub try_send-requires : goal.try_send-requires
try_send-requires c = (
  c.requires.0,
  c.requires.1,
  sym c.of.ensures ∙ ap number_of_kind c.in-Send.is,
  c.peer-peer.ensures.1,
  c.peer-peer.ensures.0,
  c.requires.2,
)

pub try_receive-requires : goal.try_receive-requires
try_receive-requires c = (
  omega (arith, c.requires.0, c.requires.2.movable.aimed.procs_few),
  c.requires.1,
  sym c.of.ensures ∙ ap number_of_kind c.in-Receive.is,
  c.peer-peer.ensures.1,
  c.peer-peer.ensures.0,
  c.requires.2.movable,
)

pub returns-in-Receive-clause-tried : goal.returns-in-Receive-clause-tried
returns-in-Receive-clause-tried c = c.try_receive.ensures.tried c.args.gates.now c.args.tree.now

pub returns-in_default : goal.returns-in_default
returns-in_default c =
    record {
      tried = other_yes _ _ _ _ _ _ _ _ c.peer-peer.ensures.0 _ (λ q. c.in_default.not-Send (kind_send c.of.result (c.of.ensures ∙ q))) (λ q. c.in_default.not-Receive (kind_receive c.of.result (c.of.ensures ∙ q))) c.with.ensures.number;
      leaves = c.requires.2.treed;
    }
