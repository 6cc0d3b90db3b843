-- `Sink::put` meets its contract: there is room for the item, or not.
use mathlib.Core.Path.{refl}
use Rattle.writer.proofs.Buffers.{put_in, put_full}
use Rattle.writer.proofs.Sink.put.Goals as goal

pub returns-then-self : goal.returns-then-self
returns-then-self g c = record { puts = put_in _ _ _ c.if-self.true; same = refl }

pub returns-else-self : goal.returns-else-self
returns-else-self g c = record { puts = put_full _ _ _ c.if-self.false; same = refl }
