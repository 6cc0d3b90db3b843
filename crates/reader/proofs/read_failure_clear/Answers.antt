-- `reader::read_failure_clear` meets its contract: the area has 16,384 words, and all are lent on.
use native.Mathlib.Omega.{arith}
use Rattle.reader.proofs.Claims.{failure_means}
use Rattle.reader.proofs.Storing.{clear_size, lent_clear}
use Rattle.reader.proofs.Verdicts.{long_failing}
use Rattle.reader.proofs.read_failure_clear.Goals as goal

pub read_failure_in-requires : goal.read_failure_in-requires
read_failure_in-requires c = lent_clear c.args.table.now c.requires

pub returns : goal.returns
returns c =
    let (answer, words) = long_failing _ c.args.table.now _ _ (omega (arith, clear_size c.args.table.now c.requires)) (c.read_failure_in.ensures.answer, c.read_failure_in.ensures.words) in
    record {
      answer = answer;
      words = words;
      accepts = (failure_means _ _ _ answer).0;
      told = (failure_means _ _ _ answer).1.0;
      refuses = (failure_means _ _ _ answer).1.1;
    }
