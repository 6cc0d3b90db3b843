-- `text::short` meets its contract: one digit or two, each where it stands.
use Rattle.text.proofs.Numbers.{digit_so, digit_bounds, digit_high}
use Rattle.text.proofs.Standing.{digit_stands, two_digits}
use mathlib.Core.Path.{sym, ◌∙◌}
use native.Mathlib.Omega.{arith}
use Rattle.text.specs.Number.{is_digit}
use Rattle.std.proofs.Common.{ap, not}
use Rattle.text.proofs.short.Goals as goal

pub overflow_sub-result : goal.overflow_sub-result
overflow_sub-result c =
    omega (arith, c.from.ensures, digit_bounds _ _ c.is_digit.ensures (ap not c.if-not-is_digit.false))

pub returns-then-not-is_digit-2 : goal.returns-then-not-is_digit-2
returns-then-not-is_digit-2 c =
    let d = sym (ap is_digit c.from-first.ensures) ∙ digit_so _ _ c.is_digit.ensures (ap not c.if-not-is_digit.false) in
    rw (c.from.ensures, c.from-first.ensures) (digit_stands _ _ (omega arith) d, omega (arith, digit_high _ d), omega arith)

pub overflow_sub-result-2 : goal.overflow_sub-result-2
overflow_sub-result-2 c =
    omega (arith, c.from-2.ensures, c.from-3.ensures, digit_bounds _ _ c.is_digit.ensures (ap not c.if-not-is_digit.false), digit_bounds _ _ c.is_digit-2.ensures (ap not c.if-not-is_digit-2.false))

pub returns : goal.returns
returns c =
    rw (c.from-2.ensures, c.from-3.ensures, c.from-first.ensures, c.from-second.ensures)
    (two_digits _ _ (omega arith)
    (sym (ap is_digit c.from-first.ensures) ∙ digit_so _ _ c.is_digit.ensures (ap not c.if-not-is_digit.false))
    (sym (ap is_digit c.from-second.ensures) ∙ digit_so _ _ c.is_digit-2.ensures (ap not c.if-not-is_digit-2.false))
    (λ e. c.if-first-eq48.false (c.from-first.ensures ∙ e)))
