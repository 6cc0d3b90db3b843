-- `reader::read_failure` meets its contract: 12 changes nothing; otherwise the first 16,384 words are lent on.
use mathlib.Core.Path.{ap, ◌∙◌}
use lib.Seq.{length-take-le}
use native.Mathlib.Omega.{arith}
use Rattle.std.proofs.Common.{Err}
use Rattle.words.specs.Area.{area_words}
use Rattle.refusal.specs.declared.Refused.{Refused}
use Rattle.reader.specs.Failure.{failure_answered}
use Rattle.reader.proofs.Claims.{failure_means}
use Rattle.reader.proofs.Storing.{lent_any}
use Rattle.reader.proofs.Verdicts.{short_failing, long_failing}
use Rattle.reader.proofs.read_failure.Goals as goal

pub returns-then-table-lt-AREA_WORDS : goal.returns-then-table-lt-AREA_WORDS
returns-then-table-lt-AREA_WORDS c =
    let (answer, words) = short_failing _ _ c.if-table-lt-AREA_WORDS.true in
    let same = ap (λ (r : Refused). failure_answered (Err r)) c.at.ensures ∙ answer in
    record {
      answer = same;
      words = words;
      accepts = (failure_means _ _ _ same).0;
      told = (failure_means _ _ _ same).1.0;
      refuses = (failure_means _ _ _ same).1.1;
    }

pub read_failure_in-requires : goal.read_failure_in-requires
read_failure_in-requires c =
    lent_any _ (length-take-le area_words c.args.table.now (omega arith))

pub returns : goal.returns
returns c =
    let (answer, words) = long_failing _ _ _ _ c.if-table-lt-AREA_WORDS.false (c.read_failure_in.ensures.answer, c.read_failure_in.ensures.words) in
    record {
      answer = answer;
      words = words;
      accepts = (failure_means _ _ _ answer).0;
      told = (failure_means _ _ _ answer).1.0;
      refuses = (failure_means _ _ _ answer).1.1;
    }
