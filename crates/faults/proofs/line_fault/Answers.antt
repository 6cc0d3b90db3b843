-- `faults::line_fault` meets its contract: the count first, then the numbers.
use mathlib.Core.Path.{◌∙◌}
use native.Mathlib.Omega.{arith}
use Rattle.columns.proofs.Full.{procs_is, procs_most}
use Rattle.recovery_line.proofs.Lines.{line_at}
use Rattle.positions.proofs.Finishing.{uncounted}
use Rattle.faults.proofs.Faults.{fault_count, fault_fit, fault_10}
use Rattle.faults.proofs.line_fault.Goals as goal

pub processes-count-requires : goal.processes-count-requires
processes-count-requires c =
    (c.requires.1.columns.whole, procs_most c.requires.0 _ c.requires.1)

pub returns-then-line-count : goal.returns-then-line-count
returns-then-line-count c =
    λ t G l. fault_count t _ G _ l _ _ _ _ c.processes-count.ensures.0 (λ q. omega arith)

pub finished_at-requires : goal.finished_at-requires
finished_at-requires c =
    (c.requires.0, uncounted c.requires.0 _ _ c.requires.1 c.requires.2)

pub returns-then-permitted : goal.returns-then-permitted
returns-then-permitted c =
    λ t G l. fault_fit t _ G _ l _ _ _ _ c.processes-count.ensures.0 c.if-line-count.false _ c.args.line.epochs c.finished_at.ensures (λ z h. line_at c.args.line _ (c.if-line-count.false ∙ c.processes-count.ensures.0 ∙ procs_is t _ G) z h) _ c.permitted.ensures c.if-permitted.true

pub returns-else-permitted : goal.returns-else-permitted
returns-else-permitted c =
    λ t G l. fault_10 t _ G _ l _ _ _ _ c.processes-count.ensures.0 c.if-line-count.false _ c.args.line.epochs c.finished_at.ensures (λ z h. line_at c.args.line _ (c.if-line-count.false ∙ c.processes-count.ensures.0 ∙ procs_is t _ G) z h) _ c.permitted.ensures c.if-permitted.false
