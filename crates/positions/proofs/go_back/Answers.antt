use Prim.Native.Nat.{◌<◌}
use Rattle.positions.proofs.Walking.{walk_goes_on, walk_ends}
use native.Mathlib.Omega.{arith}
use Rattle.positions.proofs.go_back.Goals as goal

pub overflow_add-e : goal.overflow_add-e
overflow_add-e c =
    let W = c.loop-e.invariant c.requires.cut c.requires.process c.requires.latest c.requires.linked c.requires.here in omega (arith, W.within, c.requires.sized.cut_few)

pub offset_bounds-full-e : goal.offset_bounds-full-e
offset_bounds-full-e c =
    let W = c.loop-e.invariant c.requires.cut c.requires.process c.requires.latest c.requires.linked c.requires.here in omega (arith, W.within, c.requires.sized.cut_few)

pub bounds-full-e : goal.bounds-full-e
bounds-full-e c =
    let W = c.loop-e.invariant c.requires.cut c.requires.process c.requires.latest c.requires.linked c.requires.here in omega (arith, W.within, c.requires.sized.cut_few, c.requires.sized.whole)

pub returns-then-full-e : goal.returns-then-full-e
returns-then-full-e c =
    λ cut z latest L N. walk_ends _ _ _ _ _ _ (c.loop-e.invariant cut z latest L N) (λ p. c.if-full-e.true)

pub offset_bounds-earlier-e : goal.offset_bounds-earlier-e
offset_bounds-earlier-e c =
    let W = c.loop-e.invariant c.requires.cut c.requires.process c.requires.latest c.requires.linked c.requires.here in omega (arith, W.within, c.requires.sized.cut_few)

pub bounds-earlier-e : goal.bounds-earlier-e
bounds-earlier-e c =
    let W = c.loop-e.invariant c.requires.cut c.requires.process c.requires.latest c.requires.linked c.requires.here in omega (arith, W.within, c.requires.sized.cut_few, c.requires.linked.long)

pub loop-e-smaller : goal.loop-e-smaller
loop-e-smaller c =
    let W = c.loop-e.invariant c.requires.cut c.requires.process c.requires.latest c.requires.linked c.requires.here in let p : 0 < c.loop-e.e = omega (arith, c.loop-e-test.true) in omega (arith, (c.requires.linked.before c.loop-e.e p W.within).within)

pub loop-e-preserved : goal.loop-e-preserved
loop-e-preserved c =
    λ cut z latest L N. rw c.from-e.ensures (walk_goes_on _ _ _ _ c.loop-e.e _ _ latest L (omega (arith, c.loop-e-test.true)) c.if-full-e.false (c.loop-e.invariant cut z latest L N))

pub returns : goal.returns
returns c =
    λ cut z latest L N. walk_ends _ _ _ _ _ _ (rw c.loop-e-test.false at (c.loop-e.invariant cut z latest L N)) (λ p. absurd (let q : ⊥ = omega arith in q))
