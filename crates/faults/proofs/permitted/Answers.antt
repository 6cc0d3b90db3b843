use Rattle.faults.specs.Inner.Permitted.{may_w}
use Rattle.faults.proofs.Faults.{all_none, all_next}
use Rattle.faults.proofs.permitted.Goals as goal

pub loop-z-init : goal.loop-z-init
loop-z-init c = all_none _

pub loop-z-preserved : goal.loop-z-preserved
loop-z-preserved c =
    all_next (may_w c.args.set c.args.finished.now c.args.numbers.now) _ _ _ c.may_hold-all.ensures c.loop-z.invariant
