-- `recovery::recover` meets its contract: a refusal changes nothing; otherwise the list of the messages takes the place
-- of the table.
use Rattle.table.specs.Held.{held}
use Rattle.refusal.proofs.Refusals.{placeless}
use Rattle.preparing.proofs.Preparing.{no_room, step_within}
use Rattle.recovery.proofs.Clearing.{only_trace}
use Rattle.recovery.proofs.Recovering.{refuses_recovery, recovers}
use Rattle.recovery.proofs.recover.Goals as goal

pub returns-in_err-open_failure : goal.returns-in_err-open_failure
returns-in_err-open_failure c =
    rw (placeless _ _ c.from_residual.ensures.1) (refuses_recovery c.args.table.now c.args.step c.args.set _ (no_room c.args.table.now c.args.step c.args.set _ c.in_err-open_failure.ensures.fault))

pub recover_from-requires : goal.recover_from-requires
recover_from-requires c =
    let F = c.in_ok-open_failure.ensures.given in
    (only_trace c.args.table.now F.opened.holds, (held c.args.table.now, F.opened.marked, step_within c.args.table.now _ c.args.step c.args.set _ F))

pub returns : goal.returns
returns c =
    let F = c.in_ok-open_failure.ensures.given in
    recovers c.args.table.now c.args.step c.args.set _ _ _ _ (no_room c.args.table.now c.args.step c.args.set _ c.in_ok-open_failure.ensures.fault) F (c.recover_from.ensures (held c.args.table.now) F.opened.marked (step_within c.args.table.now _ c.args.step c.args.set _ F))
