-- `trace::tally` meets its contract: a fit event's counter is there and stays in its range.
use Rattle.trace.proofs.Counting.{send_next, recv_next, save_next, done_next}
use native.Mathlib.Omega.{arith}
use Rattle.trace.proofs.tally.Goals as goal

pub channel-requires : goal.channel-requires
channel-requires c =
    (send_next _ _ _ _ (rw c.in-Send.is at c.requires)).0

pub raise-requires : goal.raise-requires
raise-requires c =
    rw c.channel.ensures.0 (send_next _ _ _ _ (rw c.in-Send.is at c.requires)).1

pub channel-requires-in-Recv : goal.channel-requires-in-Recv
channel-requires-in-Recv c =
    (recv_next _ _ _ (rw c.in-Recv.is at c.requires)).0

pub lower-requires : goal.lower-requires
lower-requires c =
    rw c.channel-in-Recv.ensures.0 (recv_next _ _ _ (rw c.in-Recv.is at c.requires)).1

pub overflow_add-at : goal.overflow_add-at
overflow_add-at c =
    omega (arith, (save_next _ _ (rw c.in-Save.is at c.requires)).0)

pub raise-requires-in-Save : goal.raise-requires-in-Save
raise-requires-in-Save c =
    (save_next _ _ (rw c.in-Save.is at c.requires)).1

pub overflow_add-at-in-Done : goal.overflow_add-at-in-Done
overflow_add-at-in-Done c =
    omega (arith, (done_next _ _ (rw c.in-Done.is at c.requires)).0)

pub raise-requires-in-Done : goal.raise-requires-in-Done
raise-requires-in-Done c =
    (done_next _ _ (rw c.in-Done.is at c.requires)).1
