use Rattle.std.proofs.Common.{◌≡◌, ◌≤◌}
use Rattle.bruteforce.specs.Counts.{times_of}
use Rattle.bruteforce.proofs.events.times.Given as goal

abbrev pub invariant-loop-i : goal.invariant-loop-i
invariant-loop-i l = (l.n ≤ l.i) × (l.n ≡ times_of l.events l.w l.i)
