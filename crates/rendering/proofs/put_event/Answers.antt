-- `rendering::put_event` meets its contract: keys with their numbers, and the end of the line.
use Rattle.writer.proofs.Buffers.{takes_then}
use Rattle.rendering.proofs.put_event.Goals as goal

pub returns : goal.returns
returns c = takes_then c.put_keys.ensures c.put_all.ensures
