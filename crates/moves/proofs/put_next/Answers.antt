-- `moves::put_next` meets its contract: the store itself.
use Rattle.machine.specs.Inner.Words.{put_in_w}
use Rattle.moves.proofs.put_next.Goals as goal

pub returns : goal.returns
unfolding put_in_w
returns c =
    rw (c.from.ensures, c.requires.2)
