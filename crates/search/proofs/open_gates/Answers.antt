use mathlib.Core.Path.{◌∙◌}
use Prim.Native.Nat.{◌<◌}
use Rattle.sets.proofs.Sets.{first_lt, rest_less}
use Rattle.machine.proofs.Tree.{min_lesser}
use Rattle.search.proofs.Opening.{gates_open, gates_shut}
use native.Mathlib.Omega.{arith}
use Rattle.search.proofs.open_gates.Goals as goal
use Rattle.search.proofs.open_gates.Goals.{then-phase-low, else-phase-low}

pub loop-left-smaller : goal.loop-left-smaller
loop-left-smaller c =
    omega (arith, c.rest-left.ensures.number, rest_less c.loop-left.left (omega (arith, c.loop-left-test.true)))

pub loop-left-preserved : goal.loop-left-preserved
loop-left-preserved c =
    let l = c.loop-left in
    let v = c.loop-left.invariant in
    let first = c.first-z.ensures.number in
    let rest = c.rest-left.ensures.number in
    let p : 0 < l.left = omega (arith, c.loop-left-test.true) in
    let hz : c.first-z.result < 64 = omega (arith, first, first_lt l.left p v.0) in (
      omega (arith, rest, v.0, rest_less l.left p),
      elim c.if-phase-low.branch [
        | then-phase-low w ↦
            gates_open _ _ _ _ l.left l.may l.shut l.gate c.first-z.result c.rest-left.result p v.0 first hz rest v.1
            w.if-phase-low.true _ _ _ (w.may-is ∙ w.with-may.ensures.number) w.shut-is w.gate-is
        | else-phase-low w ↦
            gates_shut _ _ _ _ l.left l.may l.shut l.gate c.first-z.result c.rest-left.result p v.0 first hz rest v.1
            w.if-phase-low.false _ _ _ w.may-is (w.shut-is ∙ w.with-shut.ensures.number) (w.gate-is ∙ w.min-gate.ensures ∙ min_lesser _ _)
      ],
    )
