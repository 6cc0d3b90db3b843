use mathlib.Core.Path.{◌≡◌, sym, ◌∙◌}
use native.Mathlib.Omega.{arith}
use lib.ListN.{length}
use Rattle.std.proofs.Common.{ap, not}
use Rattle.text.specs.Number.{read_to}
use Rattle.text.proofs.Numbers.{digits_end, digits_stop, digits_over, digits_next}
use Rattle.text.proofs.digits.Goals as goal

pub returns-then-not-is_digit : goal.returns-then-not-is_digit
returns-then-not-is_digit c =
    sym (digits_stop _ _ _ _ 0 _ _ c.loop-at-test.true c.from-b.ensures c.is_digit.ensures (ap not c.if-not-is_digit.true)) ∙ c.loop-at.invariant.1

pub returns-in_err-v : goal.returns-in_err-v
returns-in_err-v c =
    c.from_residual.ensures
    ∙ sym (digits_over _ _ _ _ 0 _ _ c.loop-at-test.true c.from-b.ensures c.is_digit.ensures (ap not c.if-not-is_digit.false) _ c.push.ensures c.in_err-v.was)
    ∙ c.loop-at.invariant.1

pub loop-at-preserved : goal.loop-at-preserved
loop-at-preserved c =
    (omega (arith, c.loop-at-test.true), sym (digits_next _ _ _ _ 0 _ _ c.loop-at-test.true c.from-b.ensures c.is_digit.ensures (ap not c.if-not-is_digit.false) _ c.push.ensures _ c.in_ok-v.was) ∙ c.loop-at.invariant.1)

pub returns : goal.returns
returns c =
    let here : length c.args.text.now ≡ c.loop-at.at = omega (arith, c.loop-at-test.false, c.loop-at.invariant.0) in
    ap (read_to c.loop-at.v) here ∙ sym (digits_end _ _ _ _ c.loop-at-test.false) ∙ c.loop-at.invariant.1
