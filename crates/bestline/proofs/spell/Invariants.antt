use Rattle.std.proofs.Common.{◌≡◌}
use Rattle.bruteforce.specs.Counts.{spare}
use Rattle.bestline.proofs.spell.Given as goal

abbrev pub invariant-loop-z : goal.invariant-loop-z
invariant-loop-z l = spare l.line ≡ spare l.initial.line
