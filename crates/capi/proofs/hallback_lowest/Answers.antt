-- `capi::hallback_lowest` meets its contract: what `lowest` promises, the answer in numbers.
use mathlib.Core.Path.{ap, ◌∙◌}
use Rattle.orders.specs.Answer.{Answered}
use Rattle.recovery.specs.Answers.{replay_answered}
use Rattle.capi.specs.Answers.{lowest_answer, lowest_area, replay_numbers}
use Rattle.capi.proofs.Giving.{answer_is, lowest_given}
use Rattle.capi.proofs.hallback_lowest.Goals as goal

pub returns : goal.returns
returns c =
    let n = c.put_replayed.ensures.number in
    let r = c.lowest-outcome.ensures.replays in
    let e = r.answer ∙ ap (lowest_answer c.args.table.now c.args.run.now c.args.step c.args.set) c.line_from.ensures in
    let w = r.words ∙ ap (lowest_area c.args.table.now c.args.run.now c.args.step c.args.set) c.line_from.ensures in
    let x = lowest_given c.args.table.now c.args.step _ (replay_answered c.lowest-outcome.result) _ _ c.put_replayed.ensures.numbers _ c.line_from.ensures c.args.run.now _ c.args.set r.answer
    r.equal r.exact r.at_most r.carried c.lowest-outcome.ensures.completed r.recorded r.same_lists in
    let (exact, (at_most, (carried, (completed, (equal, recorded))))) = x in
    record {
      number = n ∙ ap (λ (y : Answered). y.number) e;
      words = w;
      numbers = answer_is _ _ _ _ (ap replay_numbers e) c.put_replayed.ensures.numbers;
      exact = rw n exact;
      at_most = at_most;
      carried = rw n carried;
      completed = rw n completed;
      equal = rw n equal;
      recorded = rw n recorded;
    }
