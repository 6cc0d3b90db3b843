-- the search from here finds what the search from the start does
use Rattle.std.proofs.Common.{◌≡◌, ◌-◌}
use Rattle.bruteforce.specs.Counts.{after_from, after_of}
use Rattle.bruteforce.proofs.events.after.Given as goal

abbrev pub invariant-loop-i : goal.invariant-loop-i
invariant-loop-i l = after_from l.events l.w l.number l.i (l.upto - l.i) ≡ after_of l.events l.w l.number l.upto
