-- `report::put_recovery` meets its contract: the lines of the processes, the orphans, the kept messages, and the total.
use mathlib.Core.Path.{sym}
use Rattle.std.proofs.Common.{rules}
use Rattle.writer.proofs.Buffers.{lent}
use Rattle.report.proofs.Lines.{recovery_put}
use Rattle.restart.specs.Restart.{restart_found}
use Rattle.report.proofs.put_recovery.Goals as goal

pub returns : goal.returns
returns c =
    let t = recovery_put (restart_found c.args.r) _ c.args.events.now _ _ _ c.put_processes.ensures c.put_messages.ensures c.put_messages-2.ensures c.put_total.ensures in
    lent t (search (rules, sym t.same))
