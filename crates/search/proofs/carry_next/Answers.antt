-- `search::carry_next` meets its contract: a process's step and what its least phase opens, or a message handed over.
use mathlib.Core.Path.{◌∙◌, ap}
use mathlib.Core.List.{List}
use Prim.Native.Nat.{ℕ}
use lib.ListN.{length}
use Rattle.search.proofs.Looking.{looking_readable, looking_tryable, looking_hand, looking_run, search_end}
use native.Mathlib.Omega.{arith}
use Rattle.search.proofs.carry_next.Goals as goal

pub run_lowest-requires : goal.run_lowest-requires
run_lowest-requires c =
    let g = c.requires in
    (looking_tryable _ _ _ _ _ g.most g.searchable _ _ _ _ _ _ _ _ g.looking, g.looking.idle)

pub returns-in-Some-clause-next : goal.returns-in-Some-clause-next
returns-in-Some-clause-next c = λ a₀ most i lt Q L.
    looking_run _ _ _ _ _ most Q _ _ _ _ _ _ _ i L lt _ c.run_lowest.auto.area c.in-Some.may c.in-Some.ensures.ran (omega (arith, c.type_inv.area 14467))
    _ _ _ _ _ _ c.run_lowest.ensures.leaves (omega (arith, c.opened.type_inv)) (c.opened.auto.ready ∙ L.ready_long) c.opened.ensures.gates c.opened.ensures.lists

pub next_hand-requires : goal.next_hand-requires
next_hand-requires c =
    let g = c.requires in
    rw c.in_default.ensures.none.1 (looking_readable _ _ _ _ _ g.most g.searchable _ _ _ _ _ _ _ _ g.looking, g.looking.ready_long, g.looking.unready, g.looking.waiting)

pub returns-in_err-hand-clause-none : goal.returns-in_err-hand-clause-none
returns-in_err-hand-clause-none c =
    let no = c.in_default.ensures.none in
    rw c.from_residual.ensures (λ a₀ most i L R S. rw no.1 (search_end R _ _ _ _ S most _ i (L.going R S) no.0 (rw no.1 at c.in_err-hand.ensures.none)))

pub hand_over-may-requires : goal.hand_over-may-requires
hand_over-may-requires c =
    let g = c.requires in
    let T = looking_tryable _ _ _ _ _ g.most g.searchable _ _ _ _ _ _ _ _ g.looking in
    (c.in_ok-hand.ensures.found.channel, T.movable.links_long, rw c.in_default.ensures.none.1 T.movable.ranged.pointed)

pub returns-clause-next : goal.returns-clause-next
returns-clause-next c = λ a₀ most i lt Q L.
    let no = c.in_default.ensures.none in
    let hand = c.in_ok-hand.ensures in
    looking_hand _ _ _ _ _ most Q _ _ _ _ _ _ _ i L lt _ (c.hand_over-may.auto.area ∙ ap (λ (l : List ℕ). length l) no.1) _ _ _ _ _
    (rw no.1 at c.run_lowest.ensures.leaves) (c.next_hand.auto.ready ∙ L.ready_long) (rw no.1 at c.next_hand.ensures.unready) (rw no.1 at hand.waiting) no.0 (rw no.1 at hand.before)
    (rw no.1 at hand.found) (rw no.1 at c.hand_over-may.ensures.words) c.hand_over-may.ensures.ends
