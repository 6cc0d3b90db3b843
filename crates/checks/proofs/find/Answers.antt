use Rattle.std.proofs.Common.{◌≡◌, length, sym, ◌∙◌, arith}
use Rattle.checks.proofs.Rows.{place_past, place_from, before_none, before_here, before_next}
use Rattle.checks.proofs.find.Goals as goal

pub returns-then-from-bytes : goal.returns-then-from-bytes
returns-then-from-bytes c = place_past _ _ _ c.if-from-bytes.true

pub returns-then-bytes-i : goal.returns-then-bytes-i
returns-then-bytes-i c =
    place_from _ _ _ _ c.loop-i.invariant.0 c.loop-i.invariant.1
    (sym (before_here _ _ _ c.loop-i-test.true c.if-bytes-i.true) ∙ c.loop-i.invariant.2)

pub loop-i-preserved : goal.loop-i-preserved
loop-i-preserved c =
    (omega arith, omega arith, sym (before_next _ _ _ c.loop-i-test.true c.if-bytes-i.false) ∙ c.loop-i.invariant.2)

pub returns : goal.returns
returns c =
    let i : length c.args.bytes.now ≡ c.loop-i.i = omega arith in
    rw i
    (place_from _ _ _ _ c.loop-i.invariant.0 c.loop-i.invariant.1
    (sym (before_none _ _ _ c.loop-i-test.false) ∙ c.loop-i.invariant.2))
