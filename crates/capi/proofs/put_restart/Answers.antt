-- `capi::put_restart` meets its contract: four numbers, then three arrays.
use mathlib.Core.Path.{sym, ap, ◌∙◌}
use Rattle.std.specs.Prelude.{Result}
use Rattle.std.proofs.Common.{rules}
use Rattle.refusal.specs.declared.Refused.{Refused}
use Rattle.restart.specs.declared.Restarted.{Restarted}
use Rattle.restart.specs.Restart.{restart_found, restart_answered}
use Rattle.writer.proofs.Buffers.{takes_then, lent, whole}
use Rattle.capi.specs.Answers.{restart_numbers}
use Rattle.capi.proofs.Giving.{answer_is, takes_as}
use Rattle.capi.proofs.Putting.{restart_put, restart_refused}
use Rattle.capi.proofs.put_restart.Goals as goal

pub returns-in-Ok-clause-numbers : goal.returns-in-Ok-clause-numbers
returns-in-Ok-clause-numbers c =
    let four = c.put_all.ensures in
    let line = c.put_words.ensures in
    let epochs = c.put_words-in-Ok.ensures in
    let phases = c.put_words-in-Ok-2.ensures in
    let t = takes_then (takes_then (takes_then four line) epochs) phases in
    let puts = restart_put (restart_found c.in-Ok.r) _ _ _ _ _ _ _ _ _ _ c.from.ensures four.puts line.puts epochs.puts phases.puts in
    let is = ap (λ (x : Result Restarted Refused). restart_numbers (restart_answered x)) (sym c.in-Ok.is) in
    answer_is _ _ _ _ is (whole _ _ _ _ (lent (takes_as t puts) (search (rules, sym t.same)))).0

pub returns-in-Err-clause-numbers : goal.returns-in-Err-clause-numbers
returns-in-Err-clause-numbers c =
    let is = ap (λ (x : Result Restarted Refused). restart_numbers (restart_answered x)) (sym c.in-Err.is) in
    answer_is _ _ _ _ (restart_refused c.in-Err.refused ∙ is) c.put_refused.ensures.numbers
