-- `reader::first_line` meets its contract: the key decides.
use mathlib.Core.Path.{◌∙◌}
use Rattle.reader.proofs.First.{first_procs, first_none}
use Rattle.reader.proofs.first_line.Goals as goal

pub returns-then-key : goal.returns-then-key
returns-then-key c =
    c.procs_line.ensures ∙ first_procs _ _ c.key.ensures c.if-key.true

pub returns : goal.returns
returns c =
    first_none _ _ c.key.ensures c.if-key.false
