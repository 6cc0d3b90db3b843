-- `capi::hallback_write` meets its contract: what `write` promises, the answer in numbers.
use mathlib.Core.Path.{ap}
use Rattle.rendering.specs.Write.{WriteAnswer}
use Rattle.capi.specs.Answers.{write_numbers}
use Rattle.capi.proofs.Giving.{answer_is}
use Rattle.capi.proofs.hallback_write.Goals as goal
