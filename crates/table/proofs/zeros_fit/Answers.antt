-- `table::zeros_fit` meets its contract, one law for each way out.
use Rattle.table.proofs.Turns.{zeros_many, zeros_head, zeros_gap, zeros_past, zeros_tail}
use native.Mathlib.Omega.{arith}
use Rattle.table.proofs.zeros_fit.Goals as goal

pub returns-then-n-gt-EVENTS : goal.returns-then-n-gt-EVENTS
returns-then-n-gt-EVENTS c = zeros_many _ _ (omega arith)

pub returns-then-not-zeros : goal.returns-then-not-zeros
returns-then-not-zeros c =
    zeros_head _ _ (omega arith) _ c.zeros.ensures (c.if-not-zeros.true)

pub returns-then-not-zeros-2 : goal.returns-then-not-zeros-2
returns-then-not-zeros-2 c =
    zeros_gap _ _ (omega arith) _ c.zeros.ensures (c.if-not-zeros.false) _ c.zeros-2.ensures (c.if-not-zeros-2.true)

pub returns-then-not-zeros-3 : goal.returns-then-not-zeros-3
returns-then-not-zeros-3 c =
    zeros_past _ _ (omega arith) _ c.zeros.ensures (c.if-not-zeros.false) _ c.zeros-2.ensures (c.if-not-zeros-2.false) _ c.zeros-3.ensures (c.if-not-zeros-3.true)

pub returns : goal.returns
returns c =
    zeros_tail _ _ (omega arith) _ c.zeros.ensures (c.if-not-zeros.false) _ c.zeros-2.ensures (c.if-not-zeros-2.false) _ c.zeros-3.ensures (c.if-not-zeros-3.false) _ c.zeros-4.ensures
