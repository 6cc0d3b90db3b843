-- `protocol::fill_in_place` meets its contract: a trace's words have the counts that filling asks for.
use Rattle.protocol.proofs.Passes.{fillable_sized}
use Rattle.protocol.proofs.fill_in_place.Goals as goal

pub fill-requires : goal.fill-requires
fill-requires c =
    fillable_sized c.requires.0 _ c.requires.1
