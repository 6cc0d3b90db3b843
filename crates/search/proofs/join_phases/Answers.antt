use Rattle.search.proofs.Opening.{link_lt}
use native.Mathlib.Omega.{arith}
use Rattle.search.proofs.join_phases.Goals as goal

pub join_list-senders-requires : goal.join_list-senders-requires
join_list-senders-requires c =
    let w = c.requires.1 in
    (omega (arith, c.from.ensures, link_lt _ c.loop-f.f w.heads_small), w.full_long, w.links_long, w.links_small, w.rising, c.loop-f.invariant.0)
