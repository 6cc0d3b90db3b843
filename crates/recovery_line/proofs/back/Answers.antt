-- `recovery_line::back` meets its contract: the ones of the set are as many as the processes not at 32.
use mathlib.Core.Path.{ap, ◌∙◌}
use lib.Count.{ones}
use Rattle.recovery_line.proofs.Sets.{back_ones_lem}
use Rattle.recovery_line.proofs.back.Goals as goal

pub returns : goal.returns
returns c =
    record {
      size = ap ones c.back_set.ensures.set;
      number = ap ones c.back_set.ensures.set ∙ back_ones_lem _;
    }
