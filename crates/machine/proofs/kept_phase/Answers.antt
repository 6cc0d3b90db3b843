-- `machine::kept_phase` meets its contract: a case for each way out.
use Rattle.machine.proofs.Steps.{kept_none, kept_some}
use Rattle.machine.proofs.kept_phase.Goals as goal

pub returns-then-send_ok : goal.returns-then-send_ok
returns-then-send_ok c =
    kept_none _ _ _ _ _ _ _ c.pointer-m.ensures.word c.send_ok.ensures c.if-send_ok.true

pub returns : goal.returns
returns c =
    kept_some _ _ _ _ _ _ _ c.pointer-m.ensures.word c.send_ok.ensures c.if-send_ok.false
