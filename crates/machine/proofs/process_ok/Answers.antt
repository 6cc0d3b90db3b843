-- `machine::process_ok` meets its contract: a case for each way out.
use Rattle.machine.proofs.Steps.{process_none, process_shut, process_open}
use Rattle.machine.proofs.process_ok.Goals as goal

pub returns-then-e-eq0 : goal.returns-then-e-eq0
returns-then-e-eq0 c =
    process_none _ _ _ _ _ c.pointer-e.ensures.word c.if-e-eq0.true

pub returns-then-gates-z : goal.returns-then-gates-z
returns-then-gates-z c =
    process_shut _ _ _ _ _ c.pointer-e.ensures.word c.if-e-eq0.false c.if-gates-z.true

pub returns : goal.returns
returns c =
    process_open _ _ _ _ _ c.pointer-e.ensures.word c.if-e-eq0.false c.if-gates-z.false _ c.event_ok.ensures
