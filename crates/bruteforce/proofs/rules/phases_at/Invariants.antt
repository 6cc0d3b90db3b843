use Rattle.std.proofs.Common.{◌≡◌}
use Rattle.bruteforce.specs.Counts.{spare}
use Rattle.bruteforce.proofs.rules.phases_at.Given as goal

abbrev pub invariant-loop-z : goal.invariant-loop-z
invariant-loop-z l = spare l.at ≡ spare l.initial.at
