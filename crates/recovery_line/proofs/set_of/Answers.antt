use mathlib.Core.Path.{sym, ap, ◌∙◌}
use Prim.Native.Nat.{ℕ}
use lib.ListN.{drop, take}
use lib.Seq.{drop-length, length-take-le}
use Rattle.recovery_line.specs.Given.{back_of}
use Rattle.recovery_line.proofs.Sets.{back_fits, bit_few, back_next}
use native.Mathlib.Omega.{arith}
use Rattle.std.proofs.Common.{rules}
use Rattle.recovery_line.proofs.set_of.Goals as goal

pub loop-i-init : goal.loop-i-init
unfolding back_of
loop-i-init c =
    let l = length-take-le c.args.count c.args.numbers.now c.requires.0 in (search rules, sym (ap (λ (n : ℕ). back_of (drop n (take c.args.count c.args.numbers.now))) (sym l) ∙ ap back_of (drop-length (take c.args.count c.args.numbers.now))))

pub overflow_mul-set : goal.overflow_mul-set
overflow_mul-set c =
    omega (arith, back_fits _ _ _ _ c.loop-i-test.true c.loop-i.invariant.0 c.requires.0 c.loop-i.invariant.1 c.requires.1)

pub overflow_add-set : goal.overflow_add-set
overflow_add-set c =
    let few = bit_few _ _ _ _ c.loop-i-test.true c.loop-i.invariant.0 c.requires.0 c.loop-i.invariant.1 _ c.from.ensures in
    omega (arith, back_fits _ _ _ _ c.loop-i-test.true c.loop-i.invariant.0 c.requires.0 c.loop-i.invariant.1 c.requires.1, few)

pub loop-i-preserved : goal.loop-i-preserved
loop-i-preserved c =
    (omega arith, back_next _ _ _ _ c.loop-i-test.true c.loop-i.invariant.0 c.requires.0 c.loop-i.invariant.1 _ c.from.ensures)
