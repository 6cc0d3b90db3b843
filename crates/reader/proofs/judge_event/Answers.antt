-- `reader::judge_event` meets its contract: 7 first, then what else is wrong with the event.
use mathlib.Core.Path.{refl, ◌∙◌}
use native.Mathlib.Omega.{arith}
use Rattle.std.proofs.lemmas.Result.{err_from_is_err_and}
use Rattle.trace.proofs.Faults.{fault_counted}
use Rattle.refusal.proofs.Refusals.{no_number_0}
use Rattle.reader.proofs.Judging.{fault_1, fault_2, judge_fit, judge_unfit}
use Rattle.reader.proofs.judge_event.Goals as goal

pub returns-then-n-ge-EVENTS : goal.returns-then-n-ge-EVENTS
returns-then-n-ge-EVENTS c =
    λ t h. judge_unfit t _ 7 (fault_1 t _ (omega (arith, h.size_is))) (λ q. omega arith)

pub returns-in_err-fault : goal.returns-in_err-fault
returns-in_err-fault c =
    let p = err_from_is_err_and c.from_residual.result c.from_residual.ensures.1 in
    λ t h. rw p.1 (judge_unfit t _ _ (p.2 ∙ c.in_err-fault.ensures ∙ fault_counted _ c.requires.0 _ t.events h.tally _ ∙ rw h.procs_is (fault_2 t _ (omega (arith, h.size_is)))) (no_number_0 _))

pub returns : goal.returns
returns c =
    λ t h. judge_fit t _ 0 (c.in_ok-fault.ensures ∙ fault_counted _ c.requires.0 _ t.events h.tally _ ∙ rw h.procs_is (fault_2 t _ (omega (arith, h.size_is)))) refl
