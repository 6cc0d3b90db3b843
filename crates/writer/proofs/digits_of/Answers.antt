use native.Mathlib.Omega.{arith}
use lib.ListN.{length-set}
use Rattle.writer.proofs.Digits.{digit_last, digit_next, digit_none}
use Rattle.writer.proofs.digits_of.Goals as goal

pub returns-then-v-lt10 : goal.returns-then-v-lt10
returns-then-v-lt10 c =
    (omega arith, digit_last _ _ _ _ (omega arith) (omega arith) c.loop-i.invariant.1 c.if-v-lt10.true)

pub loop-i-preserved : goal.loop-i-preserved
loop-i-preserved c =
    (simp length-set c.loop-i.invariant.0, digit_next _ _ _ _ (omega arith) (omega arith) c.loop-i.invariant.1 c.if-v-lt10.false)

pub returns : goal.returns
returns c =
    (omega arith, digit_none _ _ _ _ (omega arith) c.loop-i.invariant.1)
