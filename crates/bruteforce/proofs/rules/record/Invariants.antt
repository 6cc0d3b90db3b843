use Rattle.std.proofs.Common.{◌≡◌}
use Rattle.bruteforce.specs.Counts.{first_word}
use Rattle.bruteforce.proofs.rules.record.Given as goal

abbrev pub invariant-loop-i : goal.invariant-loop-i
invariant-loop-i l = first_word l.run ≡ first_word l.initial.run
