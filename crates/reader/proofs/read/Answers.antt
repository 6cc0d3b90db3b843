-- `reader::read` meets its contract: 12 changes nothing; otherwise the first 16,384 words are lent on.
use mathlib.Core.Path.{ap, ◌∙◌}
use lib.Seq.{length-take-le}
use native.Mathlib.Omega.{arith}
use Rattle.std.proofs.Common.{Err}
use Rattle.words.specs.Area.{area_words}
use Rattle.refusal.specs.declared.Refused.{Refused}
use Rattle.reader.specs.Answer.{read_answered}
use Rattle.reader.proofs.Claims.{read_means}
use Rattle.reader.proofs.Verdicts.{short, long}
use Rattle.reader.proofs.read.Goals as goal

pub returns-then-table-lt-AREA_WORDS : goal.returns-then-table-lt-AREA_WORDS
returns-then-table-lt-AREA_WORDS c =
    let (answer, words) = short _ _ c.if-table-lt-AREA_WORDS.true in
    let same = ap (λ (r : Refused). read_answered (Err r)) c.at.ensures ∙ answer in
    record {
      answer = same;
      words = words;
      accepts = (read_means _ _ _ same).0;
      refuses = (read_means _ _ _ same).1;
    }

pub read_in-requires : goal.read_in-requires
read_in-requires c =
    length-take-le area_words c.args.table.now (omega arith)

pub returns : goal.returns
returns c =
    let (answer, words) = long _ _ _ _ c.if-table-lt-AREA_WORDS.false (c.read_in.ensures.answer, c.read_in.ensures.words) in
    record {
      answer = answer;
      words = words;
      accepts = (read_means _ _ _ answer).0;
      refuses = (read_means _ _ _ answer).1;
    }
