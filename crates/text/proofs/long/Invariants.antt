-- `text::long` meets its contract: the digits so far are the number so far, which is not 0; one more digit
-- is pushed where it fits.
use Prim.Native.Nat.{◌-◌, ◌<◌, ◌≤◌}
use lib.ListN.{length}
use Rattle.text.specs.Number.{decimal}
use Rattle.text.specs.Inner.Standing.{Stands}
use Rattle.text.proofs.long.Given as goal

abbrev pub invariant-loop-v : goal.invariant-loop-v
invariant-loop-v l = (0 < l.v) × (l.v ≤ 9999999999999999999) × Stands l.text l.at (decimal l.v) l.i

abbrev pub decreases-loop-v : goal.decreases-loop-v
decreases-loop-v l = length l.text - l.i
