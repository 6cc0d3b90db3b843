-- `capi::put_numbers` meets its contract: the numbers from the first place on.
use mathlib.Core.Path.{sym}
use Rattle.std.proofs.Common.{rules}
use Rattle.writer.proofs.Buffers.{lent, whole}
use Rattle.capi.proofs.put_numbers.Goals as goal

pub returns : goal.returns
returns c = (whole _ _ _ _ (lent c.put_all.ensures (search (rules, sym c.put_all.ensures.same)))).0
