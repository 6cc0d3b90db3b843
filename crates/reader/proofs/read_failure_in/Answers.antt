-- `reader::read_failure_in` meets its contract, one law for each end of the scan: the one that is wanted, and the
-- others.
use mathlib.Core.Path.{refl, ap, ◌∙◌}
use native.Mathlib.Omega.{arith}
use Rattle.std.proofs.Common.{Ok, Err}
use Rattle.std.proofs.lemmas.Result.{err_from_is_err_and}
use Rattle.refusal.specs.declared.Refused.{Refused}
use Rattle.reader.specs.declared.Scanned.{Scanned}
use Rattle.reader.specs.Failure.{failure_answered}
use Rattle.reader.specs.Inner.Reading.{scanned}
use Rattle.reader.proofs.Verdicts.{told_stopped, failing_unread, failing_ended, failing_follows, failing_last}
use Rattle.reader.proofs.read_failure_in.Goals as goal

pub returns-in_err-line : goal.returns-in_err-line
returns-in_err-line c =
    let p = err_from_is_err_and c.from_residual.result c.from_residual.ensures.1 in
    let (answer, words) = failing_unread _ _ _ c.in_err-line.ensures.outcome _ _ refl c.in_err-line.ensures.zeros in
    record { answer = rw (p.1, p.2) answer; words = words }

pub returns-in-Ended : goal.returns-in-Ended
returns-in-Ended c =
    let (answer, words) = failing_ended _ _ _ c.in_ok-line.ensures.outcome _ _ _
    (ap (λ (x : Scanned). scanned (Ok x)) c.in-Ended.is)
    (ap failure_answered c.refuse.ensures.answer ∙ ap (λ (x : Refused). failure_answered (Err x)) c.at.ensures) c.refuse.ensures.words in
    record { answer = answer; words = words }

pub overflow_add-line : goal.overflow_add-line
overflow_add-line c =
    omega (arith, (told_stopped _ _ _ c.in_ok-line.ensures.outcome _ _ _ _ (ap (λ (x : Scanned). scanned (Ok x)) c.in-Failure.is)).3)

pub returns-then-next-text : goal.returns-then-next-text
returns-then-next-text c =
    let (answer, words) = failing_follows _ _ _ c.in_ok-line.ensures.outcome _ _ _ _ (ap (λ (x : Scanned). scanned (Ok x)) c.in-Failure.is) _ _
    c.if-next-text.true
    (ap failure_answered c.refuse-then-next-text.ensures.answer ∙ ap (λ (x : Refused). failure_answered (Err x)) c.at-then-next-text.ensures)
    c.refuse-then-next-text.ensures.words in
    record { answer = answer; words = words }

pub returns-else-next-text : goal.returns-else-next-text
returns-else-next-text c =
    let (answer, words) = failing_last _ _ _ c.in_ok-line.ensures.outcome _ _ _ _ (ap (λ (x : Scanned). scanned (Ok x)) c.in-Failure.is) c.if-next-text.false in
    record { answer = answer; words = words }
