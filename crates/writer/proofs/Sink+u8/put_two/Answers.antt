-- `Sink::put_two` meets its contract: a digit, then a digit.
use Rattle.writer.proofs.Buffers.{takes_then}
use Rattle.writer.proofs.Sink+u8.put_two.Goals as goal

pub returns : goal.returns
returns c = takes_then c.put_digit.ensures c.put_digit-2.ensures
