use Rattle.std.proofs.Common.{◌*◌, ◌≤◌}
use Rattle.bruteforce.proofs.rules.steps.Given as goal

abbrev pub invariant-loop-i : goal.invariant-loop-i
invariant-loop-i l = l.n ≤ 2 * l.i
