-- `Sink::put_all` meets its contract: there is room for none of the items, for all, or for some.
use mathlib.Core.Path.{refl}
use native.Mathlib.Omega.{arith}
use Rattle.writer.proofs.Buffers.{full_put, all_put, front_put}
use Rattle.writer.proofs.Sink.put_all.Goals as goal

pub returns-then-self : goal.returns-then-self
returns-then-self g c = record { puts = full_put _ _ _ c.if-self.true; same = refl }

pub returns-then-items-room : goal.returns-then-items-room
returns-then-items-room g c =
    rw c.copy_from_slice.ensures.after (record { puts = all_put _ _ _ _ (omega arith) (omega arith); same = refl })

pub returns-else-items-room : goal.returns-else-items-room
returns-else-items-room g c =
    rw c.copy_from_slice-else-items-room.ensures.after (record { puts = front_put _ _ _ _ (omega arith) (omega arith); same = refl })
