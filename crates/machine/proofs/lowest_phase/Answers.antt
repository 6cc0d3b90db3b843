use mathlib.Core.Path.{refl}
use Rattle.machine.proofs.Steps.{low_next}
use Rattle.machine.specs.Inner.Words.{low_of}
use Rattle.machine.proofs.lowest_phase.Goals as goal

pub loop-z-init : goal.loop-z-init
unfolding low_of
loop-z-init c = refl

pub loop-z-preserved : goal.loop-z-preserved
loop-z-preserved c =
    low_next _ _ _ _ _ _ c.pointer.ensures.word c.loop-z.invariant c.least_with-low.ensures
