-- `reader::read_in` meets its contract, one law for each end of the scan: the one that is wanted, and the others.
use mathlib.Core.Path.{refl, ap, ◌∙◌}
use Rattle.std.proofs.Common.{Ok, Err}
use Rattle.std.proofs.lemmas.Result.{err_from_is_err_and}
use Rattle.refusal.specs.declared.Refused.{Refused}
use Rattle.reader.specs.declared.Scanned.{Scanned}
use Rattle.reader.specs.Answer.{read_answered}
use Rattle.reader.specs.Inner.Reading.{scanned}
use Rattle.reader.proofs.Storing.{lent_any}
use Rattle.reader.proofs.Verdicts.{left_unread, left_ended, left_stopped}
use Rattle.reader.proofs.read_in.Goals as goal

pub scan-requires : goal.scan-requires
scan-requires c = lent_any _ c.requires

pub returns-in_err-scan : goal.returns-in_err-scan
returns-in_err-scan c =
    let p = err_from_is_err_and c.from_residual.result c.from_residual.ensures.1 in
    let (answer, words) = left_unread _ _ _ c.in_err-scan.ensures.outcome _ _ refl c.in_err-scan.ensures.zeros in
    record { answer = rw (p.1, p.2) answer; words = words }

pub returns-in-Ended : goal.returns-in-Ended
returns-in-Ended c =
    let (answer, words) = left_ended _ _ _ c.in_ok-scan.ensures.outcome _ (ap (λ (x : Scanned). scanned (Ok x)) c.in-Ended.is) in
    record { answer = answer; words = words }

pub returns-in-Failure : goal.returns-in-Failure
returns-in-Failure c =
    let (answer, words) = left_stopped _ _ _ c.in_ok-scan.ensures.outcome _ _ _ _ _ _
    (ap (λ (x : Scanned). scanned (Ok x)) c.in-Failure.is)
    (ap read_answered c.refuse.ensures.answer ∙ ap (λ (x : Refused). read_answered (Err x)) c.at.ensures) c.refuse.ensures.words in
    record { answer = answer; words = words }
