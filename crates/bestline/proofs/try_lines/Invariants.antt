use Rattle.std.proofs.Common.{◌≤◌}
use Rattle.bestline.proofs.try_lines.Given as goal

abbrev pub invariant-loop-x : goal.invariant-loop-x
invariant-loop-x l = l.judged ≤ l.x
