-- `capi::put_replayed` meets its contract: the place, the steps, and 1 if complete.
use mathlib.Core.Path.{sym, ap, ◌∙◌}
use native.Mathlib.Omega.{arith}
use Rattle.std.specs.Prelude.{Result}
use Rattle.orders.specs.declared.Replayed.{Replayed}
use Rattle.refusal.specs.declared.Refused.{Refused}
use Rattle.recovery.specs.Answers.{replay_found, replay_answered}
use Rattle.capi.specs.Answers.{replay_numbers}
use Rattle.capi.proofs.Giving.{answer_is}
use Rattle.capi.proofs.Putting.{byte_is, replay_is}
use Rattle.capi.proofs.put_replayed.Goals as goal

pub returns-in-Ok-clause-numbers : goal.returns-in-Ok-clause-numbers
returns-in-Ok-clause-numbers c =
    let is = ap (λ (x : Result Replayed Refused). replay_numbers (replay_answered x)) (sym c.in-Ok.is) in
    answer_is _ _ _ _ (replay_is (replay_found c.in-Ok.r) _ (omega (arith, c.from.ensures, byte_is c.in-Ok.r.complete)) ∙ is) c.put_numbers.ensures
