use Rattle.std.proofs.Common.{◌≡◌, refl, arith}
use Rattle.checks.specs.Inner.Rows.{field_place}
use Rattle.checks.proofs.Rows.{field_next}
use Rattle.checks.proofs.field.Goals as goal

pub loop-init : goal.loop-init
unfolding field_place
loop-init c = refl

pub loop-preserved : goal.loop-preserved
loop-preserved c = field_next _ _ _ _ c.loop.invariant c.find-at.ensures.is

pub returns : goal.returns
returns c = let i : c.args.k ≡ c.loop.counter = omega arith in rw i c.loop.invariant
