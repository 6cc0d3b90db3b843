-- `gates::gates` meets its contract: after z turns the gates of the first z processes are set.
use mathlib.Core.Path.{◌≡◌}
use lib.ListN.{length}
use Rattle.trace.specs.Trace.{Trace}
use Rattle.gates.specs.Inner.Gates.{Settable}
use Rattle.gates.proofs.Setting.{Set}
use Rattle.gates.proofs.gates.Given as goal

abbrev pub invariant-loop-z : goal.invariant-loop-z
invariant-loop-z l =
    (length l.gates ≡ 128) × ((t : Trace) (S : Settable t l.full l.earlier l.latest l.line l.cut) → Set t l.full l.earlier l.latest l.line l.cut S l.z l.gates)
