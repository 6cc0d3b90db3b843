-- `faults::names_beyond` meets its contract: by the bits past the count.
use Rattle.faults.proofs.Faults.{beyond_some}
use Rattle.faults.proofs.names_beyond.Goals as goal

pub returns-then-count-ne64 : goal.returns-then-count-ne64
returns-then-count-ne64 c = beyond_some c.args.set c.args.count
