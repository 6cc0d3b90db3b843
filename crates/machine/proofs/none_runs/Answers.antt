use mathlib.Core.Path.{refl}
use Rattle.theory.specs.Lists.{all_below}
use Rattle.machine.specs.Inner.Words.{none_runs}
use Rattle.machine.proofs.Remaining.{runs_next, runs_one}
use Rattle.machine.proofs.none_runs.Goals as goal

pub loop-z-init : goal.loop-z-init
unfolding none_runs all_below
loop-z-init c = refl

pub returns-then-process_ok : goal.returns-then-process_ok
returns-then-process_ok c =
    runs_one _ _ _ _ _ c.process_ok.ensures _ c.loop-z-test.true c.if-process_ok.true

pub loop-z-preserved : goal.loop-z-preserved
loop-z-preserved c =
    runs_next _ _ _ _ _ c.process_ok.ensures c.loop-z.invariant c.if-process_ok.false
