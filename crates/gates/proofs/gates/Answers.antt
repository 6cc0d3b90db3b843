use mathlib.Core.Path.{refl}
use lib.ListN.{length-set}
use Rattle.gates.proofs.Setting.{one_set, all_set, cut_few, walkable, before_few, first_few, phase_few}
use native.Mathlib.Omega.{arith}
use Rattle.gates.proofs.gates.Goals as goal

pub go_back-back-requires : goal.go_back-back-requires
go_back-back-requires c =
    walkable _ _ _ _ _ _ c.requires.1.1 c.loop-z.z c.loop-z-test.true

pub restart_phase-requires : goal.restart_phase-requires
restart_phase-requires c =
    (c.requires.1.1.tabled.columns.whole, before_few _ _ _ _ _ _ c.requires.1.1 c.loop-z.z c.loop-z-test.true _ _ _ refl c.go_back-back.ensures, phase_few _ _ _ _ _ _ c.requires.1.1 c.loop-z.z c.loop-z-test.true _ _ _ refl c.go_back-back.ensures)

pub restart_event-requires : goal.restart_event-requires
restart_event-requires c =
    (cut_few _ _ _ _ _ _ c.requires.1.1, first_few _ _ _ _ _ _ c.requires.1.1 c.loop-z.z c.loop-z-test.true _ _ _ refl c.go_back-back.ensures)

pub loop-z-preserved : goal.loop-z-preserved
loop-z-preserved c =
    (simp length-set c.loop-z.invariant.0, λ t S. one_set _ _ _ _ _ _ S c.loop-z.z c.loop-z-test.true _ _ _ refl c.go_back-back.ensures _ _ _ _ c.loop-z.invariant.0 c.restart_phase.ensures c.gate.ensures c.restart_event.ensures (c.loop-z.invariant.1 t S))

pub returns : goal.returns
returns c =
    λ t S. all_set _ _ _ _ _ _ S c.loop-z.z _ c.loop-z.invariant.0 (omega arith) (c.loop-z.invariant.1 t S)
