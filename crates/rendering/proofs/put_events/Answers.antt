use mathlib.Core.Path.{◌≡◌}
use Prim.Native.Nat.{◌+◌, ◌-◌}
use native.Mathlib.Omega.{arith}
use Rattle.rendering.proofs.Lines.{lines_none, lines_next}
use Rattle.rendering.proofs.put_events.Goals as goal

pub loop-e-init : goal.loop-e-init
loop-e-init c = lines_none _ _

pub loop-e-preserved : goal.loop-e-preserved
loop-e-preserved c =
    let z : c.loop-e.e + 1 - 1 ≡ c.loop-e.e = omega arith in
    rw z (lines_next _ _ c.loop-e.e (omega arith) c.loop-e.invariant (rw (c.event.ensures, c.from_halves-value.ensures.number) at c.put_event.ensures))
