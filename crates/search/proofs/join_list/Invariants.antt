-- `search::join_list` meets its contract: an event of the list has joined, or is on what is left of it.
use Prim.Native.Nat.{◌-◌, ◌%◌}
use Rattle.search.proofs.Opening.{Walking}
use Rattle.search.proofs.join_list.Given as goal

abbrev pub invariant-loop-m : goal.invariant-loop-m
invariant-loop-m l = Walking l.full l.links l.first l.initial.ready l.set l.ready l.senders l.m

abbrev pub decreases-loop-m : goal.decreases-loop-m
decreases-loop-m l = (2049 - l.m) % 2049
