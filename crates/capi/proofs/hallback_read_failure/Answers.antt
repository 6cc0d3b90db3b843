-- `capi::hallback_read_failure` meets its contract: what `read_failure` promises, the answer in numbers.
use mathlib.Core.Path.{ap, ◌∙◌}
use Rattle.reader.specs.Failure.{FailureAnswer, failure_answered}
use Rattle.capi.specs.Answers.{failure_numbers}
use Rattle.capi.proofs.Giving.{answer_is}
use Rattle.capi.proofs.Reading.{failure_told_in, failure_refuses_in}
use Rattle.capi.proofs.hallback_read_failure.Goals as goal

pub returns : goal.returns
returns c =
    let n = c.put_failure.ensures.number in
    let r = c.read_failure-outcome.ensures in
    let x = failure_answered c.read_failure-outcome.result in
    record {
      number = n ∙ ap (λ (x : FailureAnswer). x.number) r.answer;
      words = r.words;
      numbers = answer_is _ _ _ _ (ap failure_numbers r.answer) c.put_failure.ensures.numbers;
      accepts = rw n r.accepts;
      told = rw n (failure_told_in _ x _ _ c.put_failure.ensures.numbers r.told);
      refuses = rw n (failure_refuses_in _ x _ _ c.put_failure.ensures.numbers _ r.refuses);
    }
