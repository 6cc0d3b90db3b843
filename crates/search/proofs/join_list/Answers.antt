use Prim.Native.Nat.{◌+◌, ◌*◌}
use lib.ListN.{length-set}
use Rattle.search.proofs.Opening.{walking_next, walking_end, link_lt, link_more, link_down}
use native.Mathlib.Omega.{arith}
use Rattle.search.proofs.join_list.Goals as goal

pub loop-m-smaller : goal.loop-m-smaller
loop-m-smaller c =
    rw c.from-m.ensures (link_down c.loop-m.m _ (omega (arith, c.loop-m-test.true)) c.loop-m.invariant.event_lt (link_lt _ (4 * c.loop-m.m + 3) c.requires.3) (link_more _ c.loop-m.m c.requires.4))

pub loop-m-preserved : goal.loop-m-preserved
loop-m-preserved c =
    walking_next _ _ _ _ _ c.loop-m.ready c.loop-m.senders c.loop-m.m c.process-p.result c.peer.result c.with.result _ _ c.process-p.ensures.0 c.peer.ensures.0 c.with.ensures.number c.with-senders.ensures.number c.from-m.ensures (omega (arith, c.from-m.ensures, link_lt _ (4 * c.loop-m.m + 3) c.requires.3)) (simp length-set c.loop-m.invariant.long) c.loop-m.invariant

pub returns : goal.returns
returns c =
    walking_end _ _ _ _ _ c.loop-m.ready c.loop-m.senders c.loop-m.m (omega (arith, c.loop-m-test.false)) c.loop-m.invariant
