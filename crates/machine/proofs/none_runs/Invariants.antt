-- `machine::none_runs` meets its contract: no process before the z-th may run.
use mathlib.Core.Path.{◌≡◌}
use mathlib.Core.Bool.{true}
use Rattle.machine.specs.Inner.Words.{none_runs}
use Rattle.machine.proofs.none_runs.Given as goal

abbrev pub invariant-loop-z : goal.invariant-loop-z
invariant-loop-z l = true ≡ none_runs l.full l.gates l.area l.z
