-- `machine::lowest_phase` meets its contract: after z processes the phase is the least of theirs.
use mathlib.Core.Path.{◌≡◌}
use Rattle.machine.specs.Inner.Words.{low_of}
use Rattle.machine.proofs.lowest_phase.Given as goal

abbrev pub invariant-loop-z : goal.invariant-loop-z
invariant-loop-z l = l.low ≡ low_of l.full l.area l.z
