-- `capi::hallback_restart` meets its contract: what `restart` promises, the answer in numbers.
use mathlib.Core.Path.{ap, ◌∙◌}
use Rattle.table.specs.Held.{held}
use Rattle.restart.specs.Restart.{RestartAnswer, restart_answered}
use Rattle.capi.specs.Answers.{restart_numbers}
use Rattle.capi.proofs.Giving.{answer_is, restart_means, restarts_in}
use Rattle.capi.proofs.hallback_restart.Goals as goal

pub returns : goal.returns
returns c =
    let n = c.put_restart.ensures.number in
    let r = c.restart-outcome.ensures in
    record {
      number = n ∙ ap (λ (x : RestartAnswer). x.number) r.answer;
      numbers = answer_is _ _ _ _ (ap restart_numbers r.answer) c.put_restart.ensures.numbers;
      means = rw n (restarts_in c.args.table.now c.args.step c.args.set (restart_answered c.restart-outcome.result) _ _ r.answer c.put_restart.ensures.numbers
          (restart_means (held c.args.table.now) c.args.step c.args.set c.restart-outcome.result r.means));
    }
