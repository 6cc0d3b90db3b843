-- `capi::hallback_messages` meets its contract: what `messages` promises, the answer in numbers.
use mathlib.Core.Path.{ap, ◌∙◌}
use Rattle.messages.specs.Messages.{MessagesAnswer, messages_answer, messages_area, messages_answered}
use Rattle.capi.specs.Answers.{messages_numbers}
use Rattle.capi.proofs.Giving.{answer_is, messages_mean, lists_in}
use Rattle.capi.proofs.hallback_messages.Goals as goal

pub returns : goal.returns
returns c =
    let n = c.put_counted.ensures.number in
    let r = c.messages-outcome.ensures in
    let e = r.answer ∙ ap (messages_answer c.args.table.now c.args.run.now c.args.step c.args.set) c.line_from.ensures in
    record {
      number = n ∙ ap (λ (x : MessagesAnswer). x.number) e;
      words = r.words ∙ ap (messages_area c.args.table.now c.args.run.now c.args.step c.args.set) c.line_from.ensures;
      numbers = answer_is _ _ _ _ (ap messages_numbers e) c.put_counted.ensures.numbers;
      means = rw n (lists_in c.args.table.now c.args.step _ _ (messages_answered c.messages-outcome.result) _ _ _ c.line_from.ensures c.put_counted.ensures.numbers
          (messages_mean _ _ c.messages-outcome.result r.means));
    }
