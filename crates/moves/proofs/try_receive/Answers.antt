-- `moves::try_receive` meets its contract: a case for each way out.
use Rattle.moves.proofs.Steps.{receive_no, receive_yes, treed_take}
use Rattle.moves.proofs.try_receive.Goals as goal

pub returns-then-m-pointer : goal.returns-then-m-pointer
returns-then-m-pointer c =
    record {
      tried = λ g tree. receive_no _ _ g _ tree _ _ _ c.requires.4 c.requires.2 _ _ c.pointer-m.ensures.word c.pointer.ensures.word c.if-m-pointer.true;
      leaves = λ tree T. T;
    }

pub returns : goal.returns
returns c =
    record {
      tried = λ g tree. receive_yes _ _ g _ tree _ _ _ c.requires.4 c.requires.2 _ _ c.pointer-m.ensures.word c.pointer.ensures.word _ _ c.if-m-pointer.false c.take_out.ensures c.with.ensures.number;
      leaves = λ tree T. treed_take _ _ _ tree T _ _ _ c.requires.1 c.take_out.ensures;
    }
