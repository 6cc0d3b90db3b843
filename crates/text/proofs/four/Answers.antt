-- `text::four` meets its contract: the bytes have room, each in its own place.
use Rattle.text.proofs.Blocks.{four_packed}
use Rattle.text.proofs.four.Goals as goal

pub returns : goal.returns
returns c =
    four_packed _ _ c.requires
