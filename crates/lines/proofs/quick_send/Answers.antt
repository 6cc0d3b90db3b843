-- `lines::quick_send` meets its contract: what was found stands there, one after the other, and LF behind it.
use Prim.Native.Nat.{◌+◌}
use native.Mathlib.Omega.{arith}
use Rattle.text.proofs.Standing.{found, key_stands}
use Rattle.lines.specs.Line.{k_to, k_val, most_value}
use Rattle.lines.proofs.Placing.{send_from}
use Rattle.lines.proofs.quick_send.Goals as goal

pub returns : goal.returns
returns c =
    let lf = c.if-text-value-ne10 in
    let sa = found c.args.text.now (c.args.at + 11) 99 2 _ _ _ c.short.ensures c.in_ok-process.was in
    let to = key_stands c.args.text.now c.in_ok-process.process.end k_to _ c.starts_with.ensures.value c.if-not-starts_with.false in
    let sb = found c.args.text.now (c.in_ok-process.process.end + 4) 99 2 _ _ _ c.short-2.ensures c.in_ok-to.was in
    let val = key_stands c.args.text.now c.in_ok-to.to.end k_val _ c.starts_with-2.ensures.value c.if-not-starts_with-2.false in
    let sv = found c.args.text.now (c.in_ok-to.to.end + 5) most_value 20 _ _ _ c.long.ensures c.in_ok-value.was in
    send_from _ _ _ _ sa _ _ _ _ c.requires.1 to sb val sv (omega (arith, c.requires.0, sa.2, sb.2, sv.2)) lf.false
