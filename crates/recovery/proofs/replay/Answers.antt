-- `recovery::replay` meets its contract: a refusal changes nothing; otherwise the first 16,384 words are lent on.
use lib.Seq.{length-take-le}
use Rattle.words.specs.Area.{area_words}
use Rattle.refusal.proofs.Refusals.{no_number_0, placeless}
use Rattle.recovery.proofs.Replaying.{refuses, carried}
use Rattle.recovery.proofs.replay.Goals as goal

pub returns-in_err-prepare : goal.returns-in_err-prepare
returns-in_err-prepare c =
    rw (placeless _ _ c.from_residual.ensures.1) (refuses c.args.table.now c.args.area.now c.args.step c.args.set c.args.line c.args.order.now _ c.in_err-prepare.ensures.fault (no_number_0 _))

pub replay-requires : goal.replay-requires
replay-requires c =
    let P = c.in_ok-prepare.ensures.given in (length-take-le area_words c.args.area.now P.opened.enough, (_, P.given))

pub returns-in-Ok : goal.returns-in-Ok
returns-in-Ok c =
    let P = c.in_ok-prepare.ensures.given in
    carried c.args.table.now c.args.area.now c.args.step c.args.set c.args.line c.args.order.now P.opened.holds P.given.tells.laws.cut_le _ _ c.in_ok-prepare.ensures.fault (c.in-Ok.ensures.answer _ P.given) (c.in-Ok.ensures.words _ P.given)

pub returns-in-Err : goal.returns-in-Err
returns-in-Err c =
    let P = c.in_ok-prepare.ensures.given in
    rw c.at.ensures (carried c.args.table.now c.args.area.now c.args.step c.args.set c.args.line c.args.order.now P.opened.holds P.given.tells.laws.cut_le _ _ c.in_ok-prepare.ensures.fault (c.in-Err.ensures.answer _ P.given) (c.in-Err.ensures.words _ P.given))
