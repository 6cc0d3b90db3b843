-- one more blank has been passed with each turn
use Rattle.std.proofs.Common.{◌≡◌}
use Rattle.checks.specs.Inner.Rows.{field_place}
use Rattle.checks.proofs.field.Given as goal

abbrev pub invariant-loop : goal.invariant-loop
invariant-loop l = l.at ≡ field_place l.row l.counter
