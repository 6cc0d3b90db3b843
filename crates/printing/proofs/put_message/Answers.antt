-- `printing::put_message` meets its contract: four pairs, of which the first has the key given, and the end of the line.
use Rattle.printing.specs.Inner.Rows.{row_bytes, words_row}
use Rattle.writer.proofs.Buffers.{takes_then}
use Rattle.printing.proofs.put_message.Goals as goal

pub returns : goal.returns
unfolding words_row row_bytes
returns c =
    rw (← c.from.ensures, ← c.from-2.ensures, ← c.from-3.ensures, ← c.from-4.ensures) (takes_then c.put_pair.ensures (takes_then c.put_pair-2.ensures (takes_then c.put_pair-3.ensures (takes_then c.put_pair-4.ensures c.put_all.ensures))))
