-- `text::number` meets its contract, one law for each way out.
use mathlib.Core.Path.{◌∙◌}
use Rattle.text.proofs.Numbers.{number_1, number_2, number_3, number_4, number_5, digit_here}
use native.Mathlib.Omega.{arith}
use Rattle.std.proofs.Common.{ap, not}
use Rattle.text.proofs.number.Goals as goal

pub returns-then-not-is_digit : goal.returns-then-not-is_digit
returns-then-not-is_digit c =
    number_1 _ _ _ _ _ c.byte-b.ensures c.is_digit.ensures (ap not c.if-not-is_digit.true)

pub returns-in_err-first : goal.returns-in_err-first
returns-in_err-first c =
    c.from_residual.ensures ∙ number_2 _ _ _ _ _ c.byte-b.ensures c.is_digit.ensures (ap not c.if-not-is_digit.false) c.if-b-ne48.true (digit_here c.args.text.now c.args.at c.byte-b.result c.is_digit.result c.byte-b.ensures c.is_digit.ensures (ap not c.if-not-is_digit.false)) _ c.push.ensures c.in_err-first.was

pub overflow_add-at : goal.overflow_add-at
overflow_add-at c =
    omega (arith, c.well_formed, digit_here c.args.text.now c.args.at c.byte-b.result c.is_digit.result c.byte-b.ensures c.is_digit.ensures (ap not c.if-not-is_digit.false))

pub returns-then-b-ne48 : goal.returns-then-b-ne48
returns-then-b-ne48 c =
    c.digits.ensures ∙ number_3 _ _ _ _ _ c.byte-b.ensures c.is_digit.ensures (ap not c.if-not-is_digit.false) c.if-b-ne48.true (digit_here c.args.text.now c.args.at c.byte-b.result c.is_digit.result c.byte-b.ensures c.is_digit.ensures (ap not c.if-not-is_digit.false)) _ c.push.ensures _ c.in_ok-first.was

pub returns-then-is_digit : goal.returns-then-is_digit
returns-then-is_digit c =
    number_4 _ _ _ _ _ _ _ c.byte-b.ensures c.is_digit.ensures (ap not c.if-not-is_digit.false) c.if-b-ne48.false c.byte-e.ensures c.is_digit-2.ensures c.if-is_digit.true

pub returns : goal.returns
returns c =
    number_5 _ _ _ _ _ _ _ c.byte-b.ensures c.is_digit.ensures (ap not c.if-not-is_digit.false) c.if-b-ne48.false c.byte-e.ensures c.is_digit-2.ensures c.if-is_digit.false

pub digits-requires : goal.digits-requires
digits-requires c =
    omega (arith, digit_here c.args.text.now c.args.at c.byte-b.result c.is_digit.result c.byte-b.ensures c.is_digit.ensures (ap not c.if-not-is_digit.false))
