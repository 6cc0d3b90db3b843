-- `search::join_phases` meets its contract: the lists of the phases so far have joined.
use mathlib.Core.Path.{◌≡◌}
use lib.ListN.{length}
use Rattle.search.specs.Inner.Opened.{PhasesJoined}
use Rattle.search.proofs.join_phases.Given as goal

abbrev pub invariant-loop-f : goal.invariant-loop-f
invariant-loop-f l = (length l.ready ≡ 64) × PhasesJoined l.full l.links l.heads l.from l.f l.initial.ready l.set l.ready l.senders
