-- `checks::print` meets its contract: the place after the bytes lies within the buffer, and is their number.
use mathlib.Core.Path.{refl}
use Rattle.checks.proofs.Filled.{fills_whole}
use Rattle.checks.proofs.print.Goals as goal

pub returns : goal.returns
returns c =
    fills_whole _ _ _ _ _ 512 refl c.put-n.ensures
