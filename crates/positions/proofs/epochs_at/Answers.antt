use Rattle.std.proofs.Common.{rules}
use Rattle.positions.proofs.Laws.{first_or_zero}
use Rattle.positions.proofs.epochs_at.Goals as goal

pub returns : goal.returns
returns c = λ z h.
    first_or_zero _ _ _ _ (λ l. let e = c.at_newest.ensures.first z h l in search rules) (c.at_newest.ensures.others z h)
