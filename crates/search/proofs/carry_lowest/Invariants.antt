-- `search::carry_lowest` meets its contract: what is still to do of the order of lowest choices comes to what the whole
-- of it does, and the search leaves nothing out.
use Rattle.search.specs.Inner.Looking.{Looking}
use Rattle.search.proofs.carry_lowest.Given as goal

abbrev pub invariant-loop-i : goal.invariant-loop-i
invariant-loop-i l = Looking l.full l.links l.heads l.gates l.initial.area l.most l.area l.tree l.ready l.o.may l.o.senders l.o.shut l.o.gate l.i
