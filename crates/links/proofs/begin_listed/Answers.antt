-- `links::begin_listed` meets its contract: the pass, then the least phase by the area that it leaves.
use mathlib.Core.Path.{refl, sym}
use Rattle.links.proofs.Beginning.{low_set}
use Rattle.links.proofs.begin_listed.Goals as goal

pub returns-clause-words : goal.returns-clause-words
returns-clause-words c = low_set _ _ _ _ _ refl c.lowest_phase.ensures (sym c.link_all.ensures.words)
