use Rattle.std.proofs.Common.{sym, arith}
use lib.Seq.{length-take-le}
use Rattle.roundtrip.proofs.print_room.Goals as goal

pub slice_bounds-print_write-end : goal.slice_bounds-print_write-end
slice_bounds-print_write-end c = sym (length-take-le _ _ (omega (arith, c.min-n.ensures)))
