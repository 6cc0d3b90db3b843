use mathlib.Core.Path.{◌≡◌, refl, ◌∙◌}
use Rattle.search.proofs.Lowering.{going_out}
use Rattle.search.proofs.Looking.{looking_start}
use native.Mathlib.Omega.{arith}
use Rattle.search.proofs.carry_lowest.Goals as goal

pub loop-i-init : goal.loop-i-init
loop-i-init c =
    looking_start _ _ _ _ _ c.args.most c.requires.0 _ _ _ _ _ _ _ c.requires.1 (omega (arith, c.type_inv.area 14467)) (omega (arith, c.opened-o.type_inv))
    (c.opened-o.auto.ready ∙ refl) c.opened-o.ensures.gates c.opened-o.ensures.lists

pub loop-i-preserved : goal.loop-i-preserved
loop-i-preserved c =
    c.in-Some.ensures.next c.args.area.now c.args.most c.loop-i.i c.loop-i-test.true c.requires.0 c.loop-i.invariant

pub returns : goal.returns
returns c =
    let e : c.loop-i.i ≡ c.args.most = omega (arith, c.loop-i.auto.i-end, c.loop-i-test.false) in
    λ R S. rw e at (going_out R _ _ _ _ S c.args.most c.loop-i.area c.loop-i.i (c.loop-i.invariant.going R S) c.loop-i-test.false)
