-- `Sink::put_pair` meets its contract: the key, then the number.
use Rattle.writer.proofs.Buffers.{takes_then}
use Rattle.writer.proofs.Sink+u8.put_pair.Goals as goal

pub returns : goal.returns
returns c = takes_then c.put_all.ensures c.put_number.ensures
