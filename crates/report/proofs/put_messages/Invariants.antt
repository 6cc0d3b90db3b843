-- `report::put_messages` meets its contract: after so many turns the lines of so many messages.
use Rattle.std.proofs.Common.{get_or}
use Rattle.theory.specs.Answers.{gather}
use Rattle.writer.specs.Inner.Sinks.{Takes}
use Rattle.report.specs.Inner.Rows.{event_row}
use Rattle.report.proofs.put_messages.Given as goal

abbrev pub invariant-loop-event : goal.invariant-loop-event
invariant-loop-event l = Takes (gather (λ i. event_row l.key l.full (get_or l.events i 0)) l.event-index) l.initial.sink l.sink
