-- a number, or the byte itself
use Rattle.writer.proofs.Buffers.{takes_same}
use Rattle.checks.proofs.Filled.{piece_number, piece_byte}
use Rattle.checks.proofs.put_piece.Goals as goal

pub returns-then-b-eq35 : goal.returns-then-b-eq35
returns-then-b-eq35 c = takes_same (piece_number _ _ c.if-b-eq35.true) c.put_number.ensures

pub returns-else-b-eq35 : goal.returns-else-b-eq35
returns-else-b-eq35 c = takes_same (piece_byte _ _ c.if-b-eq35.false) c.put.ensures
