-- `positions::link` meets its contract: before event e the earlier ones are linked.
use Rattle.std.proofs.Common.{◌≡◌, ◌-◌, ◌+◌, ◌≤◌}
use Rattle.positions.specs.Inner.Positions.{Linked}
use Rattle.positions.proofs.link.Given as goal

abbrev pub invariant-loop-e : goal.invariant-loop-e
invariant-loop-e l = record {
  to : l.e ≤ l.cut + 1;
  linked : Linked l.full (l.e - 1) l.earlier l.latest;
}
