-- `lines::quick_recv` meets its contract: what was found stands there, one after the other, and LF behind it.
use Prim.Native.Nat.{◌+◌}
use native.Mathlib.Omega.{arith}
use Rattle.text.proofs.Standing.{found, key_stands}
use Rattle.lines.specs.Line.{k_from}
use Rattle.lines.proofs.Placing.{recv_from_lem}
use Rattle.lines.proofs.quick_recv.Goals as goal

pub returns : goal.returns
returns c =
    let sa = found c.args.text.now (c.args.at + 11) 99 2 _ _ _ c.short.ensures c.in_ok-process.was in
    let from = key_stands c.args.text.now c.in_ok-process.process.end k_from _ c.starts_with.ensures.value c.if-not-starts_with.false in
    let sb = found c.args.text.now (c.in_ok-process.process.end + 6) 99 2 _ _ _ c.short-2.ensures c.in_ok-from.was in
    recv_from_lem _ _ _ _ sa _ _ c.requires.1 from sb (omega (arith, c.requires.0, sa.2, sb.2)) c.if-text-from-ne10.false
