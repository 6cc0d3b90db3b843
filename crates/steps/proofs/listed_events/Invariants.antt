-- `steps::listed_events` meets its contract: before event e the listed ones of the earlier events are counted.
use Rattle.std.proofs.Common.{◌≡◌, ◌<◌, ◌≤◌, ◌-◌, ◌+◌}
use Rattle.theory.specs.Lists.{cnt}
use Rattle.columns.specs.Inner.Full.{events_w}
use Rattle.steps.specs.Inner.Steps.{after_restart_w}
use Rattle.steps.proofs.listed_events.Given as goal

abbrev pub invariant-loop-e : goal.invariant-loop-e
invariant-loop-e l = record {
  few : events_w l.full ≤ 2048;
  to : l.e ≤ events_w l.full + 1;
  below : l.count < l.e;
  counted : l.count ≡ cnt (after_restart_w l.full l.gates) (l.e - 1);
}
