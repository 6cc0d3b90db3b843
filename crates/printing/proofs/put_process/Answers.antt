-- `printing::put_process` meets its contract: four pairs and the end of the line.
use Rattle.printing.specs.Lines.{process_line}
use Rattle.writer.proofs.Buffers.{takes_then}
use Rattle.printing.proofs.put_process.Goals as goal

pub returns : goal.returns
unfolding process_line
returns c =
    rw (← c.from.ensures, ← c.from-2.ensures, ← c.from-3.ensures) (takes_then c.put_pair.ensures (takes_then c.put_pair-2.ensures (takes_then c.put_pair-3.ensures (takes_then c.put_pair-4.ensures c.put_all.ensures))))
