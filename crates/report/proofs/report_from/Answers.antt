-- `report::report_from` meets its contract: the line that was found goes through the events of its messages, the counts
-- and the printing.
use Rattle.restart.proofs.Restarting.{engine_takeable}
use Rattle.report.proofs.Found.{count_few, recounts}
use native.Mathlib.Omega.{arith}
use Rattle.std.proofs.Common.{rules}
use Rattle.report.proofs.report_from.Goals as goal

pub gates_of-requires : goal.gates_of-requires
gates_of-requires c =
    (search rules, (c.requires.0, engine_takeable c.requires.0 _ c.requires.1 c.args.cut c.args.set c.requires.2 _ (c.restart_from-restarted.ensures.answer c.requires.0 c.requires.1 c.requires.2) (c.restart_from-restarted.ensures.means c.requires.0 c.requires.1 c.requires.2)))

pub entries-counts-requires : goal.entries-counts-requires
entries-counts-requires c =
    (search rules, (_, c.gates_of.ensures c.requires.0 (engine_takeable c.requires.0 _ c.requires.1 c.args.cut c.args.set c.requires.2 _ (c.restart_from-restarted.ensures.answer c.requires.0 c.requires.1 c.requires.2) (c.restart_from-restarted.ensures.means c.requires.0 c.requires.1 c.requires.2))))

pub listed_events-requires : goal.listed_events-requires
listed_events-requires c =
    let g = c.gates_of.ensures c.requires.0 (engine_takeable c.requires.0 _ c.requires.1 c.args.cut c.args.set c.requires.2 _ (c.restart_from-restarted.ensures.answer c.requires.0 c.requires.1 c.requires.2) (c.restart_from-restarted.ensures.means c.requires.0 c.requires.1 c.requires.2)) in (_, g.tells, g.gated)

pub put_recovery-requires : goal.put_recovery-requires
put_recovery-requires c =
    (c.requires.1.tabled.columns.whole, count_few c.requires.0 c.args.full.now c.requires.1 c.args.cut c.args.set _ (c.restart_from-restarted.ensures.answer c.requires.0 c.requires.1 c.requires.2) (c.restart_from-restarted.ensures.means c.requires.0 c.requires.1 c.requires.2), (omega (arith, c.entries-counts.ensures.few), λ i h. c.entries-counts.ensures.known i (omega arith)))

pub returns : goal.returns
returns c =
    λ t M h. let e = c.restart_from-restarted.ensures.answer t M h in let m = c.restart_from-restarted.ensures.means t M h in let g = c.gates_of.ensures t (engine_takeable t _ M c.args.cut c.args.set h _ e m) in recounts t c.args.full.now M c.args.cut c.args.set _ e m _ g _ _ _ _ (c.entries-counts.ensures.listed _ g) c.entries-counts.ensures.few _ (c.listed_events.ensures.count _ g.tells g.gated) _ _ _ c.put_recovery.ensures
