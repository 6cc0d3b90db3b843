-- `printing::put_total` meets its contract: four pairs and the end of the line.
use Rattle.printing.specs.Lines.{total_line}
use Rattle.writer.proofs.Buffers.{takes_then}
use Rattle.printing.proofs.put_total.Goals as goal

pub returns : goal.returns
unfolding total_line
returns c =
    rw (← c.from.ensures) (takes_then c.put_pair.ensures (takes_then c.put_pair-2.ensures (takes_then c.put_pair-3.ensures (takes_then c.put_pair-4.ensures c.put_all.ensures))))
