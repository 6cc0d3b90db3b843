-- `preparing::prepare` meets its contract: the failure first, then the line; nothing is wrong, and the gates are those
-- of the trace's own run.
use Rattle.table.specs.Held.{held}
use mathlib.Core.Path.{◌∙◌}
use Rattle.refusal.proofs.Refusals.{handed_on, no_number_0}
use Rattle.preparing.proofs.Preparing.{failure_first, step_within, line_number, takeable}
use Rattle.preparing.proofs.prepare.Goals as goal

pub returns-in_err-open_failure-clause-fault : goal.returns-in_err-open_failure-clause-fault
returns-in_err-open_failure-clause-fault c =
    handed_on _ _ c.from_residual.ensures.1
    ∙ failure_first c.args.table.now c.args.room c.args.step c.args.set c.args.line _ c.in_err-open_failure.ensures.fault (no_number_0 _)

pub line_fault-requires : goal.line_fault-requires
line_fault-requires c =
    let T = c.in_ok-open_failure.ensures.given in (held c.args.table.now, T.opened.marked.tabled, step_within _ _ _ _ _ T)

pub returns-in_err-line_fault-clause-fault : goal.returns-in_err-line_fault-clause-fault
returns-in_err-line_fault-clause-fault c =
    let T = c.in_ok-open_failure.ensures.given in
    handed_on _ _ c.from_residual-in_err-line_fault.ensures.1
    ∙ line_number _ _ _ _ c.args.line _ T _ (c.in_err-line_fault.ensures (held c.args.table.now) T.opened.marked.tabled (step_within _ _ _ _ _ T))

pub gates_of-requires : goal.gates_of-requires
gates_of-requires c =
    let T = c.in_ok-open_failure.ensures.given in
    let e = c.in_ok-line_fault.ensures (held c.args.table.now) T.opened.marked.tabled (step_within _ _ _ _ _ T) in
    (c.requires.1, (held c.args.table.now, takeable _ _ _ _ c.args.line _ T e))

pub returns-clause-fault : goal.returns-clause-fault
returns-clause-fault c =
    let T = c.in_ok-open_failure.ensures.given in
    line_number _ _ _ _ c.args.line _ T _ (c.in_ok-line_fault.ensures (held c.args.table.now) T.opened.marked.tabled (step_within _ _ _ _ _ T))

pub returns-clause-given : goal.returns-clause-given
returns-clause-given c =
    let T = c.in_ok-open_failure.ensures.given in
    let e = c.in_ok-line_fault.ensures (held c.args.table.now) T.opened.marked.tabled (step_within _ _ _ _ _ T) in
    record { opened = T.opened; given = c.gates_of.ensures (held c.args.table.now) (takeable _ _ _ _ c.args.line _ T e) }
