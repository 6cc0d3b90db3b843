-- whatever puts the rest of the pattern from here puts the whole
use Rattle.std.proofs.Common.{◌≡◌, ◌≤◌}
use Rattle.checks.proofs.Filled.{Rest}
use Rattle.checks.proofs.put.Given as goal

abbrev pub invariant-loop-b : goal.invariant-loop-b
invariant-loop-b l =
    (l.k ≤ l.b-index) × Rest l.pattern l.values l.b-index l.k l.initial.sink l.sink
    × (l.sink.out.ghost_name ≡ l.initial.sink.out.ghost_name)
