-- `moves::take_out` meets its contract: the channel's next message, and the record.
use mathlib.Core.Path.{◌∙◌}
use Rattle.machine.specs.Inner.Words.{take_out_w}
use Rattle.moves.proofs.take_out.Goals as goal

pub returns : goal.returns
unfolding take_out_w
returns c =
    c.note_taken.ensures ∙ rw (c.from.ensures, c.requires.3)
