-- `faults::permitted` meets its contract: after z turns the flag is that of the first z numbers.
use mathlib.Core.Path.{◌≡◌}
use Rattle.theory.specs.Lists.{all_below}
use Rattle.faults.specs.Inner.Permitted.{may_w}
use Rattle.faults.proofs.permitted.Given as goal

abbrev pub invariant-loop-z : goal.invariant-loop-z
invariant-loop-z l = l.all ≡ all_below l.z (may_w l.set l.finished l.numbers)
