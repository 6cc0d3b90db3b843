-- `moves::try_send` meets its contract: a case for each way out.
use Rattle.moves.proofs.Steps.{send_no, send_drop, send_put, treed_put}
use Rattle.moves.proofs.try_send.Goals as goal

pub returns-then-pointer-e : goal.returns-then-pointer-e
returns-then-pointer-e c =
    record {
      tried = send_drop _ _ _ _ _ _ _ _ c.requires.4 c.requires.2 _ _ c.pointer-m.ensures.word c.send_ok.ensures _ _ _ _ c.if-send_ok.true c.pointer.ensures.word c.if-pointer-e.true c.drop_orphan.ensures.words c.with.ensures.number;
      leaves = c.drop_orphan.ensures.leaves;
    }

pub returns-then-send_ok : goal.returns-then-send_ok
returns-then-send_ok c =
    record {
      tried = send_put _ _ _ _ _ _ _ _ c.requires.4 c.requires.2 _ _ c.pointer-m.ensures.word c.send_ok.ensures _ _ _ _ c.if-send_ok.true c.pointer.ensures.word c.if-pointer-e.false c.put_next.ensures c.with-then-send_ok.ensures.number;
      leaves = treed_put _ _ _ _ c.requires.5.treed _ _ c.put_next.ensures;
    }

pub returns : goal.returns
returns c =
    record {
      tried = send_no _ _ _ _ _ _ _ _ c.requires.4 c.requires.2 _ _ c.pointer-m.ensures.word c.send_ok.ensures c.if-send_ok.false;
      leaves = c.requires.5.treed;
    }
