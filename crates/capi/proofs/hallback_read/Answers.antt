-- `capi::hallback_read` meets its contract: what `read` promises, the answer in numbers.
use mathlib.Core.Path.{ap, ◌∙◌}
use Rattle.reader.specs.Answer.{ReadAnswer, read_answered}
use Rattle.capi.specs.Answers.{read_numbers}
use Rattle.capi.proofs.Giving.{answer_is}
use Rattle.capi.proofs.Reading.{read_in}
use Rattle.capi.proofs.hallback_read.Goals as goal

pub returns : goal.returns
returns c =
    let n = c.put_read.ensures.number in
    let r = c.read-outcome.ensures in
    record {
      number = n ∙ ap (λ (x : ReadAnswer). x.number) r.answer;
      words = r.words;
      numbers = answer_is _ _ _ _ (ap read_numbers r.answer) c.put_read.ensures.numbers;
      accepts = rw n r.accepts;
      refuses = rw n (read_in _ _ (read_answered c.read-outcome.result) _ _ c.put_read.ensures.numbers r.refuses);
    }
