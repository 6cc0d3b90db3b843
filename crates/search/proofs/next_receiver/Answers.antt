use mathlib.Core.Path.{◌≡◌, sym, ◌∙◌}
use Prim.Native.Nat.{◌<◌}
use lib.ListN.{length}
use lib.Seq.{get_or-set_same}
use borrow.Author.Tests.{lt-ltb}
use Rattle.machine.proofs.Steps.{hand_kept}
use Rattle.sets.proofs.Sets.{none_in, lower_out, first_lt, first_in_lem, rest_less}
use Rattle.search.proofs.Searching.{unready_set, unready_at}
use native.Mathlib.Omega.{arith}
use Rattle.search.proofs.next_receiver.Goals as goal

pub loop-left-init : goal.loop-left-init
loop-left-init c =
    (omega (arith, c.type_inv.ready c.args.p), c.requires.2, c.requires.3, unready_at _ _ _ _ _ c.args.p c.requires.0 c.requires.3)

pub kept_phase-requires : goal.kept_phase-requires
kept_phase-requires c =
    let p : 0 < c.loop-left.left = omega (arith, c.loop-left-test.true) in
    (c.requires.0, omega (arith, c.requires.0, c.first-q.ensures.number, first_lt c.loop-left.left p c.loop-left.invariant.0), c.requires.1)

pub returns-then-kept_phase-low-clause-found : goal.returns-then-kept_phase-low-clause-found
returns-then-kept_phase-low-clause-found c =
    let v = c.loop-left.invariant in
    let first = c.first-q.ensures.number in
    let p : 0 < c.loop-left.left = omega (arith, c.loop-left-test.true) in
    let l : c.args.p < length c.loop-left.ready = omega (arith, c.requires.0, v.1) in
    let low = c.type_inv.area 14467 in
    let lt = first_lt c.loop-left.left p v.0 in record {
      within = omega (arith, first, lt);
      before = λ r j. v.3 r (omega (arith, j, first, lt)) (lower_out c.loop-left.left r (omega (arith, j, first)));
      ready = sym (hand_kept _ _ _ _ _ c.kept_phase.result (omega (arith, low)) c.kept_phase.ensures) ∙ lt-ltb _ _ c.if-kept_phase-low.true;
      member = rw (get_or-set_same c.loop-left.ready c.args.p c.loop-left.left 0 l, first) (first_in_lem c.loop-left.left p v.0);
    }

pub returns-then-kept_phase-low-clause-unready : goal.returns-then-kept_phase-low-clause-unready
returns-then-kept_phase-low-clause-unready c =
    let v = c.loop-left.invariant in
    unready_set _ _ _ _ c.loop-left.ready c.args.p c.loop-left.left (omega (arith, c.requires.0, v.1)) v.2 v.3

pub loop-left-smaller : goal.loop-left-smaller
loop-left-smaller c =
    omega (arith, c.rest-left.ensures.number, rest_less c.loop-left.left (omega (arith, c.loop-left-test.true)))

pub returns-clause-none : goal.returns-clause-none
returns-clause-none c =
    let e : c.loop-left.left ≡ 0 = omega (arith, c.loop-left-test.false) in
    λ q h. c.loop-left.invariant.3 q h (rw e (none_in q))

pub returns-clause-unready : goal.returns-clause-unready
returns-clause-unready c =
    let v = c.loop-left.invariant in
    let e : c.loop-left.left ≡ 0 = omega (arith, c.loop-left-test.false) in
    unready_set _ _ _ _ c.loop-left.ready c.args.p 0 (omega (arith, c.requires.0, v.1)) v.2 (λ q h o. v.3 q h (rw e o))
