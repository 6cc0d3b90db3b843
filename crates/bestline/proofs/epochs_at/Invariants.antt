use Rattle.std.proofs.Common.{◌≡◌}
use Rattle.bruteforce.specs.Counts.{spare}
use Rattle.bestline.proofs.epochs_at.Given as goal

abbrev pub invariant-loop-z : goal.invariant-loop-z
invariant-loop-z l = spare l.epochs ≡ spare l.initial.epochs
