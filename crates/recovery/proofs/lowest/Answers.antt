-- `recovery::lowest` meets its contract: a refusal changes nothing; otherwise the first 16,384 words are lent on.
use lib.Seq.{length-take-le}
use Rattle.words.specs.Area.{area_words}
use Rattle.refusal.proofs.Refusals.{no_number_0, placeless}
use Rattle.theory.specs.Order.{lowest_order}
use Rattle.preparing.specs.Faults.{run_of}
use Rattle.recovery.specs.Answers.{refusal}
use Rattle.recovery.proofs.Replaying.{refuses, not_completed, carried, completed}
use Rattle.recovery.proofs.lowest.Goals as goal

pub returns-in_err-prepare : goal.returns-in_err-prepare
returns-in_err-prepare c =
    let order = lowest_order (run_of c.args.table.now c.args.step c.args.line) in
    rw (placeless _ _ c.from_residual.ensures.1) (record {
      replays = refuses c.args.table.now c.args.area.now c.args.step c.args.set c.args.line order _ c.in_err-prepare.ensures.fault (no_number_0 _);
      completed = not_completed c.args.table.now c.args.area.now c.args.step c.args.set c.args.line order _ (refusal _) c.in_err-prepare.ensures.fault (no_number_0 _);
    })

pub lowest-requires : goal.lowest-requires
lowest-requires c =
    let P = c.in_ok-prepare.ensures.given in (length-take-le area_words c.args.area.now P.opened.enough, (_, P.given))

pub returns : goal.returns
returns c =
    let order = lowest_order (run_of c.args.table.now c.args.step c.args.line) in
    let P = c.in_ok-prepare.ensures.given in
    let answer = c.lowest.ensures.answer _ P.given in
    record {
      replays = carried c.args.table.now c.args.area.now c.args.step c.args.set c.args.line order P.opened.holds P.given.tells.laws.cut_le _ _ c.in_ok-prepare.ensures.fault answer (c.lowest.ensures.words _ P.given);
      completed = completed c.args.table.now c.args.area.now c.args.step c.args.set c.args.line order P.opened.holds P.given.tells.laws.cut_le _ answer;
    }
