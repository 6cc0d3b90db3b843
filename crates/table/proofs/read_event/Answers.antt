-- `table::read_event` meets its contract, one law for each kind of word.
use mathlib.Core.Path.{sym, ◌∙◌}
use native.Mathlib.Omega.{arith}
use Rattle.table.proofs.Turns.{read_send, read_value, read_recv, read_save, read_done, read_none}
use Rattle.table.proofs.read_event.Goals as goal

pub returns-then-top-eq1 : goal.returns-then-top-eq1
returns-then-top-eq1 c =
    rw (c.process-at.ensures.0, c.peer-peer.ensures.0) (read_send _ _ (sym c.top.ensures ∙ c.if-top-eq1.true))

pub returns-then-value-ne0 : goal.returns-then-value-ne0
returns-then-value-ne0 c = read_value _ _ (λ q. c.if-top-eq1.false (c.top.ensures ∙ q)) c.if-value-ne0.true

pub returns-then-top-eq2 : goal.returns-then-top-eq2
returns-then-top-eq2 c =
    rw (c.process-at.ensures.0, c.peer-peer.ensures.0) (read_recv _ _ (λ q. c.if-top-eq1.false (c.top.ensures ∙ q)) (omega arith) (sym c.top-2.ensures ∙ c.if-top-eq2.true))

pub returns-then-above-eq-CHECKPOINT_WORD : goal.returns-then-above-eq-CHECKPOINT_WORD
returns-then-above-eq-CHECKPOINT_WORD c =
    rw c.process-at.ensures.0 (read_save _ _ (λ q. c.if-top-eq1.false (c.top.ensures ∙ q)) (omega arith) (λ q. c.if-top-eq2.false (c.top-2.ensures ∙ q)) (sym c.above-above.ensures ∙ c.if-above-eq-CHECKPOINT_WORD.true))

pub returns-then-above-ne-DONE_WORD : goal.returns-then-above-ne-DONE_WORD
returns-then-above-ne-DONE_WORD c =
    read_none _ _ (λ q. c.if-top-eq1.false (c.top.ensures ∙ q)) (omega arith) (λ q. c.if-top-eq2.false (c.top-2.ensures ∙ q)) (λ q. omega arith) (λ q. omega arith)

pub returns : goal.returns
returns c =
    rw c.process-at.ensures.0 (read_done _ _ (λ q. c.if-top-eq1.false (c.top.ensures ∙ q)) (omega arith) (λ q. c.if-top-eq2.false (c.top-2.ensures ∙ q)) (sym c.above-above.ensures ∙ c.if-above-ne-DONE_WORD.false))
