-- `machine::pointer` meets its contract: the word is an event or 0, since the area is bounded.
use mathlib.Core.Path.{refl}
use Rattle.machine.proofs.Steps.{bound}
use Rattle.machine.proofs.pointer.Goals as goal

pub returns : goal.returns
returns c =
    record {
      word = refl;
      bound = bound _ _ c.requires.2.bounded c.requires.0 c.requires.1;
    }
