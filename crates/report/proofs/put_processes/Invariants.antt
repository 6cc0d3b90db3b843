-- `report::put_processes` meets its contract: after z turns the lines of the first z processes.
use Rattle.theory.specs.Answers.{gather}
use Rattle.restart.specs.Restart.{restart_found}
use Rattle.writer.specs.Inner.Sinks.{Takes}
use Rattle.report.specs.Report.{process_line_of}
use Rattle.report.proofs.put_processes.Given as goal

abbrev pub invariant-loop-z : goal.invariant-loop-z
invariant-loop-z l = Takes (gather (process_line_of (restart_found l.r)) l.z) l.initial.sink l.sink
