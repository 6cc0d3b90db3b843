-- `trace::recv_fault` meets its contract, one law for each way out.
use mathlib.Core.Path.{sym}
use mathlib.Core.List.{[]}
use Rattle.std.proofs.lemmas.Result.{err_from_is_err_and}
use Rattle.trace.proofs.Faults.{pair_fit, recv_1, recv_2, recv_3, unfit_some}
use native.Mathlib.Omega.{arith}
use Rattle.trace.proofs.recv_fault.Goals as goal

pub returns-in_err-pair_fault : goal.returns-in_err-pair_fault
returns-in_err-pair_fault c =
    let p = err_from_is_err_and c.from_residual.result c.from_residual.ensures.1 in
    rw (p.1, p.2) (recv_1 _ _ _ _ _ (c.in_err-pair_fault.ensures _ 0) (unfit_some _))

pub channel-requires : goal.channel-requires
channel-requires c =
    let s = pair_fit _ [] _ _ (sym (c.in_ok-pair_fault.ensures [] 0)) in (omega (arith, s.1), omega (arith, s.0))

pub returns-then-counts-channel-eq0 : goal.returns-then-counts-channel-eq0
returns-then-counts-channel-eq0 c =
    recv_2 _ _ _ _ (sym (c.in_ok-pair_fault.ensures _ 0)) (rw c.channel.ensures.0 at c.if-counts-channel-eq0.true)

pub returns : goal.returns
returns c =
    recv_3 _ _ _ _ (sym (c.in_ok-pair_fault.ensures _ 0)) (rw c.channel.ensures.0 at c.if-counts-channel-eq0.false)
