-- `machine::hand_ok` meets its contract.
use native.Mathlib.Omega.{arith}
use Rattle.machine.proofs.Steps.{hand_kept}
use Rattle.machine.proofs.hand_ok.Goals as goal

pub returns : goal.returns
returns c =
    hand_kept _ _ _ _ _ _ (omega (arith, c.type_inv.area 14467)) c.kept_phase.ensures
