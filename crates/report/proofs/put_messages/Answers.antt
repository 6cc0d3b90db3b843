use mathlib.Core.Path.{◌≡◌}
use lib.ListN.{length}
use native.Mathlib.Omega.{arith}
use Rattle.report.specs.Inner.Rows.{event_rows}
use Rattle.report.proofs.Lines.{lines_none, lines_next}
use Rattle.report.proofs.put_messages.Goals as goal

pub loop-event-init : goal.loop-event-init
loop-event-init c = lines_none _ _

pub loop-event-preserved : goal.loop-event-preserved
loop-event-preserved c = lines_next _ _ c.loop-event.invariant c.put_sent.ensures

pub returns : goal.returns
unfolding event_rows
returns c =
    let e : c.loop-event.event-index ≡ length c.args.events.now = omega arith in rw e at c.loop-event.invariant
