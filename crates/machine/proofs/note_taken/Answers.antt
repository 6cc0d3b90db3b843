-- `machine::note_taken` meets its contract: the stores themselves.
use mathlib.Core.Path.{refl}
use Rattle.machine.specs.Inner.Words.{noted_w}
use Rattle.machine.proofs.note_taken.Goals as goal

pub returns : goal.returns
unfolding noted_w
returns c = refl
