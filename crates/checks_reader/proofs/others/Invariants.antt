-- `others` is safe: no more words are counted than places passed.
use Rattle.std.proofs.Common.{◌≤◌}
use Rattle.checks_reader.proofs.others.Given as goal

abbrev pub invariant-loop-w : goal.invariant-loop-w
invariant-loop-w l = l.count ≤ l.w-index
