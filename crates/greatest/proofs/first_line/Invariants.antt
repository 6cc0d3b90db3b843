-- `greatest::first_line` meets its contract: after z turns the first z numbers are those of the first line, the others
-- as they were.
use mathlib.Core.Path.{◌≡◌}
use lib.ListN.{length, get_or}
use mathlib.Core.Bool.{cond}
use Rattle.theory.specs.Line.{in_set}
use Rattle.words.proofs.Written.{Written}
use Rattle.greatest.proofs.first_line.Given as goal

abbrev pub invariant-loop-z : goal.invariant-loop-z
invariant-loop-z l = (length l.numbers ≡ length l.initial.numbers) × Written (λ k. cond (in_set l.set k) (get_or l.finished k 0) 32) l.initial.numbers l.z l.numbers
