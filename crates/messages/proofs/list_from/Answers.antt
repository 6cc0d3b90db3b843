-- `messages::list_from` meets its contract: the counts are words of the list.
use Rattle.messages.proofs.Listing.{counted, few_counted}
use Rattle.messages.proofs.list_from.Goals as goal

pub returns : goal.returns
returns c =
    record {
      answer = λ R G. counted R _ _ _ G _ (c.list.ensures R G);
      words = λ R G. c.list.ensures R G;
      few = few_counted c.requires.1.0 _ _ _ c.requires.1.1 _ (c.list.ensures _ c.requires.1.1);
    }
