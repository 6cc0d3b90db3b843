-- `capi::put_counted` meets its contract: the place, and the three counts.
use mathlib.Core.Path.{sym, ap}
use Rattle.messages.specs.Messages.{messages_found, messages_answered}
use Rattle.capi.proofs.Giving.{answer_is}
use Rattle.capi.proofs.Putting.{messages_are}
use Rattle.capi.proofs.put_counted.Goals as goal

pub returns-in-Ok-clause-numbers : goal.returns-in-Ok-clause-numbers
returns-in-Ok-clause-numbers c =
    let is = ap messages_answered (sym c.in-Ok.is) in
    answer_is _ _ _ _ (messages_are (messages_found c.in-Ok.c) _ _ _ _ c.from.ensures c.from-in-Ok.ensures c.from-in-Ok-2.ensures is) c.put_numbers.ensures
