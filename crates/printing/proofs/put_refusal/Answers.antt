-- `printing::put_refusal` meets its contract: two pairs and the end of the line.
use mathlib.Core.Path.{sym}
use Rattle.std.proofs.Common.{rules}
use Rattle.printing.specs.Lines.{refusal_line}
use Rattle.writer.proofs.Buffers.{takes_then, lent}
use Rattle.printing.proofs.put_refusal.Goals as goal

pub returns : goal.returns
unfolding refusal_line
returns c =
    let t = takes_then c.put_pair.ensures (takes_then c.put_pair-2.ensures c.put_all.ensures) in
    rw (← c.from.ensures) (lent t (search (rules, sym t.same)))
