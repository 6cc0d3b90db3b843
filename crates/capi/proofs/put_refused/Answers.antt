-- `capi::put_refused` meets its contract: the place, then the others.
use mathlib.Core.Path.{sym}
use Rattle.std.proofs.Common.{rules}
use Rattle.writer.proofs.Buffers.{takes_then, lent, whole}
use Rattle.capi.proofs.put_refused.Goals as goal

pub returns-clause-numbers : goal.returns-clause-numbers
returns-clause-numbers c =
    let t = takes_then c.put.ensures c.put_all.ensures in
    (whole _ _ _ _ (lent t (search (rules, sym t.same)))).0
