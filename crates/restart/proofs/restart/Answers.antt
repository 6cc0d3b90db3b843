-- `restart::restart` meets its contract, one law for each way out.
use mathlib.Core.Path.{refl}
use Rattle.std.specs.Prelude.{Ok, Err}
use Rattle.table.specs.Held.{held}
use Rattle.refusal.specs.Inner.Checks.{at_no_place}
use Rattle.refusal.proofs.Refusals.{no_number_0, placeless}
use Rattle.preparing.proofs.Preparing.{no_room, step_within}
use Rattle.restart.proofs.Restarting.{answered, refuses_restart, answers_restart}
use Rattle.restart.proofs.restart.Goals as goal

pub returns-in_err-open_failure : goal.returns-in_err-open_failure
returns-in_err-open_failure c =
    let f = no_room c.args.table.now c.args.step c.args.set _ c.in_err-open_failure.ensures.fault in
    let e = placeless _ _ c.from_residual.ensures.1 in
    let p = (answered c.args.table.now c.args.step c.args.set (Err (at_no_place _))).1 (refuses_restart c.args.table.now c.args.step c.args.set _ _ f (no_number_0 _) refl) in
    rw e (record { answer = p.answer; means = p.means })

pub restart_from-requires : goal.restart_from-requires
restart_from-requires c =
    let F = c.in_ok-open_failure.ensures.given in
    (held c.args.table.now, F.opened.marked, step_within c.args.table.now _ c.args.step c.args.set _ F)

pub returns : goal.returns
returns c =
    let F = c.in_ok-open_failure.ensures.given in
    let s = step_within c.args.table.now _ c.args.step c.args.set _ F in
    let f = no_room c.args.table.now c.args.step c.args.set _ c.in_ok-open_failure.ensures.fault in
    let p = (answered c.args.table.now c.args.step c.args.set (Ok c.restart_from.result)).1 (answers_restart c.args.table.now c.args.step c.args.set _ f (c.restart_from.ensures.answer (held c.args.table.now) F.opened.marked s) (c.restart_from.ensures.means (held c.args.table.now) F.opened.marked s)) in
    record { answer = p.answer; means = p.means }
