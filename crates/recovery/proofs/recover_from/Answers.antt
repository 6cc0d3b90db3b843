-- `recovery::recover_from` meets its contract: the line that was found goes through the counts and the list.
use mathlib.Core.Path.{sym, ap}
use lib.Seq.{length-take-le}
use Rattle.messages.specs.Messages.{MessagesAnswer}
use Rattle.recovery.proofs.Clearing.{trace_cleared}
use Rattle.recovery.proofs.Recovering.{lowest_counted}
use Rattle.restart.proofs.Restarting.{engine_takeable}
use native.Mathlib.Omega.{arith}
use Rattle.std.proofs.Common.{rules}
use Rattle.recovery.proofs.recover_from.Goals as goal

pub gates_of-requires : goal.gates_of-requires
gates_of-requires c =
    (search rules, (c.requires.1.0, engine_takeable c.requires.1.0 _ c.requires.1.1 c.args.cut c.args.set c.requires.1.2 _ (c.restart_from-restarted.ensures.answer c.requires.1.0 c.requires.1.1 c.requires.1.2) (c.restart_from-restarted.ensures.means c.requires.1.0 c.requires.1.1 c.requires.1.2)))

pub listed_events-listed-requires : goal.listed_events-listed-requires
listed_events-listed-requires c =
    let g = c.gates_of.ensures c.requires.1.0 (engine_takeable c.requires.1.0 _ c.requires.1.1 c.args.cut c.args.set c.requires.1.2 _ (c.restart_from-restarted.ensures.answer c.requires.1.0 c.requires.1.1 c.requires.1.2) (c.restart_from-restarted.ensures.means c.requires.1.0 c.requires.1.1 c.requires.1.2)) in (_, g.tells, g.gated)

pub slice_bounds-zero-end : goal.slice_bounds-zero-end
slice_bounds-zero-end c = omega (arith, c.requires.0.0)

pub slice_bounds-zero-end-2 : goal.slice_bounds-zero-end-2
slice_bounds-zero-end-2 c = sym (length-take-le _ c.args.area.now (omega (arith, c.requires.0.0)))

pub list_from-counted-requires : goal.list_from-counted-requires
list_from-counted-requires c =
    let g = c.gates_of.ensures c.requires.1.0 (engine_takeable c.requires.1.0 _ c.requires.1.1 c.args.cut c.args.set c.requires.1.2 _ (c.restart_from-restarted.ensures.answer c.requires.1.0 c.requires.1.1 c.requires.1.2) (c.restart_from-restarted.ensures.means c.requires.1.0 c.requires.1.1 c.requires.1.2)) in (trace_cleared c.args.area.now _ c.requires.0 c.zero.ensures, (_, g))

pub returns : goal.returns
returns c =
    λ t M h. let e = c.restart_from-restarted.ensures.answer t M h in let m = c.restart_from-restarted.ensures.means t M h in let g = c.gates_of.ensures t (engine_takeable t _ M c.args.cut c.args.set h _ e m) in let counts = c.list_from-counted.ensures.answer _ g in record { restarted = e; restarts = m; replayed = lowest_counted _ g.tells.laws m.greatest.loss_free _ _ (c.listed_events-listed.ensures.count _ g.tells g.gated) (ap (λ (x : MessagesAnswer). x.kept) counts); counted = counts; words = c.list_from-counted.ensures.words _ g; few = c.list_from-counted.ensures.few }
