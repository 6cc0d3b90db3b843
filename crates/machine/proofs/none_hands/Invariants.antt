-- `machine::none_hands` meets its contract: no message of the first e events may be handed over.
use mathlib.Core.Path.{◌≡◌}
use mathlib.Core.Bool.{true}
use Rattle.machine.specs.Inner.Words.{none_hands}
use Rattle.machine.proofs.none_hands.Given as goal

abbrev pub invariant-loop-e : goal.invariant-loop-e
invariant-loop-e l = true ≡ none_hands l.full l.gates l.area l.e
