-- `capi::hallback_replay` meets its contract: what `replay` promises, the answer in numbers.
use mathlib.Core.Path.{ap, ◌∙◌}
use Rattle.recovery_line.specs.declared.Line.{Line}
use Rattle.orders.specs.Answer.{Answered}
use Rattle.recovery.specs.Answers.{replay_answer, replay_area, replay_answered}
use Rattle.capi.specs.Answers.{replay_numbers}
use Rattle.capi.proofs.Giving.{answer_is, replay_given}
use Rattle.capi.proofs.hallback_replay.Goals as goal

pub returns : goal.returns
returns c =
    let n = c.put_replayed.ensures.number in
    let r = c.replay-outcome.ensures in
    let e = r.answer ∙ ap (λ (l : Line). replay_answer c.args.table.now c.args.run.now c.args.step c.args.set l c.args.order.now) c.line_from.ensures in
    let w = r.words ∙ ap (λ (l : Line). replay_area c.args.table.now c.args.run.now c.args.step c.args.set l c.args.order.now) c.line_from.ensures in
    let x = replay_given c.args.table.now c.args.step _ (replay_answered c.replay-outcome.result) _ _ c.put_replayed.ensures.numbers _ c.line_from.ensures c.args.order.now _ r.equal r.exact r.at_most r.carried r.recorded r.same_lists in
    let (exact, (at_most, (carried, (equal, recorded)))) = x in
    record {
      number = n ∙ ap (λ (y : Answered). y.number) e;
      words = w;
      numbers = answer_is _ _ _ _ (ap replay_numbers e) c.put_replayed.ensures.numbers;
      exact = rw n exact;
      at_most = at_most;
      carried = rw n carried;
      equal = rw n equal;
      recorded = rw n recorded;
    }
