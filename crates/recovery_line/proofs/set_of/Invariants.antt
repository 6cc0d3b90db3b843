-- `recovery_line::set_of` meets its contract: after each turn the set is that of the numbers from i on.
use mathlib.Core.Path.{◌≡◌}
use Prim.Native.Nat.{◌≤◌}
use lib.ListN.{drop, take}
use Rattle.recovery_line.specs.Given.{back_of}
use Rattle.recovery_line.proofs.set_of.Given as goal

abbrev pub invariant-loop-i : goal.invariant-loop-i
invariant-loop-i l = (l.i ≤ l.count) × (l.set ≡ back_of (drop l.i (take l.count l.numbers)))
