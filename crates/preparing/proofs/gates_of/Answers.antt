-- `preparing::gates_of` meets its contract: the gates are those of the trace's own run.
use Rattle.words.proofs.Area.{zero_word}
use Rattle.preparing.proofs.Preparing.{unlinked, settable, given}
use Rattle.std.proofs.Common.{rules}
use Rattle.preparing.proofs.gates_of.Goals as goal

pub link-requires : goal.link-requires
link-requires c =
    unlinked c.requires.1.0 _ c.requires.1.1.marked.tabled _ c.requires.1.1.within _ _ (search rules) (search rules) (λ z. zero_word 64 z)

pub gates-requires : goal.gates-requires
gates-requires c =
    (c.requires.0, (c.requires.1.0, settable c.requires.1.0 _ _ _ c.requires.1.1 _ _ c.link.ensures))

pub returns : goal.returns
returns c =
    λ t P. given t _ _ _ P _ (c.gates.ensures t (settable t _ _ _ P _ _ c.link.ensures))
