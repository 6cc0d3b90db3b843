use Rattle.report.proofs.Lines.{lines_none, lines_next}
use Rattle.report.proofs.put_processes.Goals as goal

pub loop-z-init : goal.loop-z-init
loop-z-init c = lines_none _ _

pub loop-z-preserved : goal.loop-z-preserved
loop-z-preserved c = lines_next _ _ c.loop-z.invariant c.put_process.ensures
