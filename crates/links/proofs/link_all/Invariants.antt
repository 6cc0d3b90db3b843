-- `links::link_all` meets its contract: after event x the links, heads and words are those of the events from x on.
use Rattle.links.proofs.Passing.{LinkedTo}
use Rattle.links.proofs.link_all.Given as goal

abbrev pub invariant-loop-x : goal.invariant-loop-x
invariant-loop-x l = LinkedTo l.full l.gates l.cut l.n l.initial.links l.initial.area l.links l.heads l.area l.x
