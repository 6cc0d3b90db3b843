use mathlib.Core.Path.{refl, ◌∙◌}
use Prim.Native.Nat.{◌<◌}
use Rattle.sets.proofs.Sets.{first_lt, rest_less}
use Rattle.search.proofs.Searching.{rest_idle, ran_found}
use native.Mathlib.Omega.{arith}
use Rattle.search.proofs.run_lowest.Goals as goal

pub try_process-requires : goal.try_process-requires
try_process-requires c =
    let v = c.loop-left.invariant in
    let p : 0 < c.loop-left.left = omega (arith, c.loop-left-test.true) in
    (omega (arith, c.first.ensures.number, first_lt c.loop-left.left p v.0), rw (v.2, v.3) c.requires.0)

pub returns-in-Some-clause-ran : goal.returns-in-Some-clause-ran
returns-in-Some-clause-ran c =
    let v = c.loop-left.invariant in
    let p : 0 < c.loop-left.left = omega (arith, c.loop-left-test.true) in
    ran_found _ _ _ _ _ _ _ c.loop-left.left c.first.result c.in-Some.next _ v.2 p v.0 v.1 c.first.ensures.number v.4 c.in-Some.ensures.done c.in-Some.ensures.woken refl

pub loop-left-smaller : goal.loop-left-smaller
loop-left-smaller c =
    omega (arith, c.rest-left.ensures.number, rest_less c.loop-left.left (omega (arith, c.loop-left-test.true)))

pub loop-left-preserved : goal.loop-left-preserved
loop-left-preserved c =
    let v = c.loop-left.invariant in
    let p : 0 < c.loop-left.left = omega (arith, c.loop-left-test.true) in
    let less = rest_less c.loop-left.left p in
    let no = c.in_default.ensures.refused in (
      omega (arith, c.rest-left.ensures.number, v.0, less),
      omega (arith, c.rest-left.ensures.number, v.1, less),
      no.1 ∙ v.2,
      no.2 ∙ v.3,
      rw c.rest-left.ensures.number (rest_idle _ _ _ c.loop-left.left p v.0 v.4 (rw (c.first.ensures.number, v.2) at no.0)),
    )
