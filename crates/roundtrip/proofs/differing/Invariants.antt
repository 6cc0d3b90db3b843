-- `differing` is safe: no more bytes are counted than places passed.
use Rattle.std.proofs.Common.{◌≤◌}
use Rattle.roundtrip.proofs.differing.Given as goal

abbrev pub invariant-loop-i : goal.invariant-loop-i
invariant-loop-i l = l.count ≤ l.i
