-- `restart::restart_from` meets its contract: the line, and what is said of it.
use Rattle.restart.proofs.Restarting.{made, means}
use Rattle.restart.proofs.restart_from.Goals as goal

pub returns : goal.returns
returns c =
    record {
      answer = λ t G h. made t _ G _ _ h _ (c.greatest-line.ensures.line t _ G h) _ _ _ _ c.back_set.ensures.set c.back.ensures.size (c.greatest-line.ensures.epochs t _ G h) (c.greatest-line.ensures.phases t _ G h);
      means = λ t G h. means t _ G _ _ h _ (c.greatest-line.ensures.line t _ G h) _ _ _ _ (c.greatest-line.ensures.means t _ G h) c.back_set.ensures.set c.back_set.ensures.bits c.back.ensures.size c.back.ensures.number;
    }
