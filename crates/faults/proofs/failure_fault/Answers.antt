-- `faults::failure_fault` meets its contract: each way out gives the number that the theory gives.
use Rattle.columns.proofs.Full.{procs_most}
use Rattle.faults.proofs.Faults.{fault_8, fault_empty, fault_beyond, fault_none}
use native.Mathlib.Omega.{arith}
use Rattle.faults.proofs.failure_fault.Goals.{then-set-eq0-via-then-set-eq0, then-set-eq0-via-else-set-eq0+then-names_beyond}
use Rattle.faults.proofs.failure_fault.Goals as goal

pub returns-then-step-from-clause-number : goal.returns-then-step-from-clause-number
returns-then-step-from-clause-number c =
    λ t g. fault_8 t _ g _ _ (omega (arith, c.from.ensures, c.if-step-from.true))

pub processes-requires : goal.processes-requires
processes-requires c =
    (c.requires.1.columns.whole, procs_most c.requires.0 _ c.requires.1)

pub returns-then-set-eq0-clause-number : goal.returns-then-set-eq0-clause-number
returns-then-set-eq0-clause-number c =
    λ t g. elim c.then-set-eq0.branch [
      | then-set-eq0-via-then-set-eq0 w ↦ fault_empty t _ g _ _ (omega (arith, c.from.ensures, c.if-step-from.false)) w.if-set-eq0.true
      | then-set-eq0-via-else-set-eq0+then-names_beyond w ↦
          fault_beyond t _ g _ _ (omega (arith, c.from.ensures, c.if-step-from.false)) w.if-set-eq0.false _ w.processes.ensures.0 _ w.names_beyond.ensures w.if-names_beyond.true
    ]

pub returns-clause-number : goal.returns-clause-number
returns-clause-number c =
    λ t g. fault_none t _ g _ _ (omega (arith, c.from.ensures, c.if-step-from.false)) c.if-set-eq0.false _ c.processes.ensures.0 _ c.names_beyond.ensures c.if-names_beyond.false
