use mathlib.Core.Path.{◌≡◌, ◌∙◌}
use Prim.Native.Nat.{◌+◌, ◌*◌, ◌/◌, ◌%◌, ◌<◌}
use Rattle.sets.proofs.Sets.{first_lt, first_in_lem, rest_less}
use Rattle.search.proofs.Searching.{waiting_to, waiting_all, waiting_rest}
use native.Mathlib.Omega.{arith}
use Rattle.search.proofs.next_hand.Goals as goal

pub next_receiver-requires : goal.next_receiver-requires
next_receiver-requires c =
    let v = c.loop-left.invariant in
    (omega (arith, c.first-p.ensures.number, first_lt c.loop-left.left (omega (arith, c.loop-left-test.true)) v.0), c.requires.0, v.2, v.3)

pub returns-in-Some-clause-before : goal.returns-in-Some-clause-before
returns-in-Some-clause-before c =
    let v = c.loop-left.invariant in
    let first = c.first-p.ensures.number in
    let f = c.in-Some.ensures.found in
    let lt = first_lt c.loop-left.left (omega (arith, c.loop-left-test.true)) v.0 in
    waiting_to _ _ _ c.loop-left.left c.first-p.result c.in-Some.q first (omega (arith, first, lt)) (omega (arith, f.within)) v.1 (λ r j k. f.before r j)

pub returns-in-Some-clause-found : goal.returns-in-Some-clause-found
returns-in-Some-clause-found c =
    let first = c.first-p.ensures.number in
    let f = c.in-Some.ensures.found in
    let p : 0 < c.loop-left.left = omega (arith, c.loop-left-test.true) in
    let lt = first_lt c.loop-left.left p c.loop-left.invariant.0 in
    let e : (64 * c.first-p.result + c.in-Some.q) / 64 ≡ c.first-p.result = omega (arith, f.within) in
    let d : (64 * c.first-p.result + c.in-Some.q) % 64 ≡ c.in-Some.q = omega (arith, f.within) in record {
      channel = omega (arith, first, lt, f.within);
      ready = rw e f.ready;
      sender = rw (e, first) (first_in_lem c.loop-left.left p c.loop-left.invariant.0);
      receiver = rw (e, d) f.member;
    }

pub loop-left-smaller : goal.loop-left-smaller
loop-left-smaller c =
    omega (arith, c.rest-left.ensures.number, rest_less c.loop-left.left (omega (arith, c.loop-left-test.true)))

pub loop-left-preserved : goal.loop-left-preserved
loop-left-preserved c =
    let v = c.loop-left.invariant in
    let p : 0 < c.loop-left.left = omega (arith, c.loop-left-test.true) in (
      omega (arith, c.rest-left.ensures.number, v.0, rest_less c.loop-left.left p),
      waiting_rest _ _ _ _ c.loop-left.left c.first-p.result c.rest-left.result p v.0 c.first-p.ensures.number c.rest-left.ensures.number c.in_default.ensures.none v.1,
      c.next_receiver.auto.ready ∙ v.2,
      c.next_receiver.ensures.unready,
    )

pub returns-clause-none : goal.returns-clause-none
returns-clause-none c =
    let e : c.loop-left.left ≡ 0 = omega (arith, c.loop-left-test.false) in
    waiting_all _ _ _ (rw e at c.loop-left.invariant.1)
