use Rattle.orders.proofs.Cleared.{part_others, part_zeros}
use Rattle.machine.specs.Inner.Words.{current_base}
use native.Mathlib.Omega.{arith}
use Rattle.orders.proofs.finish.Goals as goal

pub returns-clause-kept : goal.returns-clause-kept
returns-clause-kept c = λ k h.
    part_others current_base 8321 c.args.area.now _ (omega (arith, c.requires)) (c.fill.ensures.after (λ y e. e)) k (λ l. h l)

pub returns-clause-zeros : goal.returns-clause-zeros
returns-clause-zeros c = λ k h j.
    part_zeros current_base 8321 c.args.area.now _ (omega (arith, c.requires)) (c.fill.ensures.after (λ y e. e)) k h (omega (arith, j))
