-- `rendering::put_keys` meets its contract: the keys of each kind of event, with their numbers.
use Rattle.text.specs.Number.{decimal}
use Rattle.lines.specs.Line.{k_to, k_val, k_from}
use Rattle.lines.specs.Render.{render_event}
use Rattle.rendering.proofs.Lines.{then_pair}
use Rattle.rendering.proofs.put_keys.Goals as goal

pub returns-in-Send : goal.returns-in-Send
unfolding render_event
returns-in-Send c =
    rw c.in-Send.is (then_pair k_val (decimal c.in-Send.val) (then_pair k_to (decimal c.in-Send.to) c.put_pair.ensures c.put_pair-in-Send.ensures) c.put_pair-in-Send-2.ensures)

pub returns-in-Recv : goal.returns-in-Recv
unfolding render_event
returns-in-Recv c =
    rw c.in-Recv.is (then_pair k_from (decimal c.in-Recv.from) c.put_pair-in-Recv.ensures c.put_pair-in-Recv-2.ensures)

pub returns-in-Save : goal.returns-in-Save
unfolding render_event
returns-in-Save c = rw c.in-Save.is c.put_pair-in-Save.ensures

pub returns-in-Done : goal.returns-in-Done
unfolding render_event
returns-in-Done c = rw c.in-Done.is c.put_pair-in-Done.ensures
