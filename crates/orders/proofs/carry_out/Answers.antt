use mathlib.Core.Path.{◌≡◌, refl, sym, ◌∙◌, ap}
use Prim.Native.Nat.{ℕ}
use lib.ListN.{get_or}
use Rattle.orders.proofs.Ordering.{tryable, run_starts, run_bad, run_next, run_end}
use native.Mathlib.Omega.{arith}
use Rattle.orders.proofs.carry_out.Goals as goal

pub loop-c-init : goal.loop-c-init
loop-c-init c = record {
  counted = refl;
  within = omega arith;
  area_long = refl;
  treed = c.requires.1;
  live = λ R S. run_starts R _ _ _ _ S _;
}

pub try_choice-requires : goal.try_choice-requires
try_choice-requires c =
    let v = c.loop-c.invariant in
    let live = v.live c.requires.0.run c.requires.0.started in
    tryable _ _ _ _ c.requires.0 _ v.area_long live.state live.rel live.inv _ v.treed

pub returns-then-not-try_choice : goal.returns-then-not-try_choice
returns-then-not-try_choice c =
    let v = c.loop-c.invariant in
    let choice : c.from.result ≡ get_or c.args.order.now c.loop-c.steps 0 = c.from.ensures ∙ ap (λ (k : ℕ). get_or c.args.order.now k 0) (sym v.counted) in
    λ R S. run_bad R _ _ _ _ S _ _ _ _ _ _ _ (v.live R S) (omega arith) choice c.try_choice.ensures.allowed c.if-not-try_choice.true

pub loop-c-preserved : goal.loop-c-preserved
loop-c-preserved c =
    let v = c.loop-c.invariant in
    let choice : c.from.result ≡ get_or c.args.order.now c.loop-c.steps 0 = c.from.ensures ∙ ap (λ (k : ℕ). get_or c.args.order.now k 0) (sym v.counted) in
    record {
      counted = omega arith;
      within = omega arith;
      area_long = c.try_choice.auto.area ∙ v.area_long;
      treed = c.try_choice.ensures.leaves;
      live = λ R S. run_next R _ _ _ _ S _ _ _ _ _ _ _ (v.live R S) (omega arith) choice c.try_choice.ensures.allowed c.if-not-try_choice.false (c.try_choice.ensures.done c.if-not-try_choice.false);
    }

pub returns : goal.returns
returns c =
    λ R S. run_end R _ _ _ _ S _ _ _ _ (c.loop-c.invariant.live R S) c.loop-c.invariant.within (omega arith)
