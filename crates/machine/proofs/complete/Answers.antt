-- `machine::complete` meets its contract: a case for each way out.
use mathlib.Core.Path.{refl}
use Rattle.machine.proofs.Remaining.{complete_runs, complete_hands}
use Rattle.machine.proofs.complete.Goals as goal

pub returns-then-none_runs : goal.returns-then-none_runs
returns-then-none_runs c =
    complete_hands _ _ _ c.requires.0 _ _ refl c.none_runs.ensures c.if-none_runs.true _ _ refl c.none_hands.ensures

pub returns : goal.returns
returns c =
    complete_runs _ _ _ c.requires.0 _ _ refl c.none_runs.ensures c.if-none_runs.false
