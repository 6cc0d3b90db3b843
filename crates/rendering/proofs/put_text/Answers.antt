-- `rendering::put_text` meets its contract: the first line, and those of the events.
use mathlib.Core.Path.{sym}
use Rattle.std.proofs.Common.{rules}
use Rattle.reader.specs.Render.{render}
use Rattle.table.specs.Held.{held}
use Rattle.rendering.specs.Write.{text_of}
use Rattle.writer.proofs.Buffers.{takes_then, lent}
use Rattle.rendering.proofs.put_text.Goals as goal

pub returns : goal.returns
unfolding text_of render held
returns c =
    let t = takes_then (rw c.from.ensures at c.put_pair.ensures) (takes_then c.put_all.ensures c.put_events.ensures) in
    lent t (search (rules, sym t.same))
