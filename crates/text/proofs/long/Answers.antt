use Rattle.text.proofs.Numbers.{digit_so, digit_bounds}
use Rattle.text.proofs.Standing.{decimal_near, digit_stands, push_stands, fitted}
use mathlib.Core.Path.{sym, ◌∙◌}
use native.Mathlib.Omega.{arith}
use Rattle.text.specs.Number.{is_digit, pushed}
use Rattle.std.proofs.Common.{ap, not}
use Rattle.text.proofs.long.Goals as goal

pub overflow_sub-v : goal.overflow_sub-v
overflow_sub-v c =
    omega (arith, c.from-v.ensures, digit_bounds _ _ c.is_digit.ensures (ap not c.if-not-is_digit.false))

pub returns-then-v-eq0 : goal.returns-then-v-eq0
returns-then-v-eq0 c =
    (rw (c.from-v.ensures, c.from-first.ensures) (digit_stands _ _ (omega arith) (sym (ap is_digit c.from-first.ensures) ∙ digit_so _ _ c.is_digit.ensures (ap not c.if-not-is_digit.false))), omega arith, omega arith)

pub loop-v-init : goal.loop-v-init
loop-v-init c =
    (omega arith, omega (arith, c.from-v.ensures, digit_bounds _ _ c.is_digit.ensures (ap not c.if-not-is_digit.false)), rw (c.from-v.ensures, c.from-first.ensures) (digit_stands _ _ (omega arith) (sym (ap is_digit c.from-first.ensures) ∙ digit_so _ _ c.is_digit.ensures (ap not c.if-not-is_digit.false))))

pub bounds-text-i : goal.bounds-text-i
bounds-text-i c =
    omega (arith, decimal_near _ _ _ _ c.loop-v.invariant.1 c.loop-v.invariant.2)

pub returns-then-not-is_digit-2 : goal.returns-then-not-is_digit-2
returns-then-not-is_digit-2 c =
    (c.loop-v.invariant.2, omega (arith, c.loop-v.invariant.1), omega (arith, decimal_near _ _ _ _ c.loop-v.invariant.1 c.loop-v.invariant.2))

pub overflow_sub-v-in-loop-v : goal.overflow_sub-v-in-loop-v
overflow_sub-v-in-loop-v c =
    omega (arith, c.from.ensures, digit_bounds _ _ c.is_digit-in-loop-v.ensures (ap not c.if-not-is_digit-2.false))

pub loop-v-smaller : goal.loop-v-smaller
loop-v-smaller c =
    omega (arith, decimal_near _ _ _ _ c.loop-v.invariant.1 c.loop-v.invariant.2)

pub loop-v-preserved : goal.loop-v-preserved
loop-v-preserved c =
    (omega (arith, c.from.ensures, digit_bounds _ _ c.is_digit-in-loop-v.ensures (ap not c.if-not-is_digit-2.false)), omega (arith, c.from.ensures, digit_bounds _ _ c.is_digit-in-loop-v.ensures (ap not c.if-not-is_digit-2.false)), rw (c.from.ensures, c.from-next.ensures) (push_stands _ _ _ _ c.loop-v.invariant.2 c.loop-v.invariant.0 (omega (arith, decimal_near _ _ _ _ c.loop-v.invariant.1 c.loop-v.invariant.2)) (sym (ap is_digit c.from-next.ensures) ∙ digit_so _ _ c.is_digit-in-loop-v.ensures (ap not c.if-not-is_digit-2.false)) (omega arith)))

pub bounds-text-i-2 : goal.bounds-text-i-2
bounds-text-i-2 c =
    omega (arith, decimal_near _ _ _ _ c.loop-v.invariant.1 c.loop-v.invariant.2)

pub returns-then-not-is_digit-3 : goal.returns-then-not-is_digit-3
returns-then-not-is_digit-3 c =
    (c.loop-v.invariant.2, omega (arith, c.loop-v.invariant.1), omega (arith, decimal_near _ _ _ _ c.loop-v.invariant.1 c.loop-v.invariant.2))

pub returns-in_default : goal.returns-in_default
returns-in_default c =
    (c.loop-v.invariant.2, omega (arith, c.loop-v.invariant.1), omega (arith, decimal_near _ _ _ _ c.loop-v.invariant.1 c.loop-v.invariant.2))

pub returns : goal.returns
returns c =
    let more = fitted _ _ _ _ 18446744073709551615 c.loop-v.invariant.2 c.loop-v.invariant.0 (omega (arith, decimal_near _ _ _ _ c.loop-v.invariant.1 c.loop-v.invariant.2)) (sym (ap is_digit c.from-last.ensures) ∙ digit_so _ _ c.is_digit-2.ensures (ap not c.if-not-is_digit-3.false)) (omega (arith, c.loop-v.invariant.1)) _ _ (c.push.ensures ∙ ap (λ b. pushed c.loop-v.v b 18446744073709551615) c.from-last.ensures) c.in-Some.is in
    (more.0, more.1, omega (arith, decimal_near _ _ _ _ c.loop-v.invariant.1 c.loop-v.invariant.2))
