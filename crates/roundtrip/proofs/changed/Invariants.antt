-- `changed` is safe: no more bytes are counted than places passed.
use Rattle.std.proofs.Common.{◌≤◌}
use Rattle.roundtrip.proofs.changed.Given as goal

abbrev pub invariant-loop-b : goal.invariant-loop-b
invariant-loop-b l = l.count ≤ l.b-index
