use Rattle.std.proofs.Common.{arith, refl, ◌≡◌, ◌∙◌, ◌<◌}
use Rattle.theory.specs.Lists.{cnt}
use Rattle.columns.proofs.Full.{size_most}
use Rattle.steps.proofs.Counting.{turn_more, turn_none, at_end}
use Rattle.steps.proofs.listed_events.Goals as goal
use Rattle.steps.proofs.listed_events.Goals.{then-gates-z, else-gates-z}

pub loop-e-init : goal.loop-e-init
loop-e-init c = record {
  few = size_most c.requires.0.trace c.args.full.now c.requires.1.tabled;
  to = omega arith;
  below = omega arith;
  counted = unfold cnt in refl;
}

pub loop-e-preserved : goal.loop-e-preserved
loop-e-preserved c =
    let i = c.loop-e.invariant in
    let h : 0 < c.loop-e.e = omega (arith, i.below) in
    elim c.if-gates-z.branch [
      | then-gates-z w ↦ record {
        few = i.few;
        to = omega (arith, c.loop-e-test.true);
        below = omega (arith, i.below, w.count-is);
        counted = w.count-is ∙ turn_more c.args.full.now c.args.gates.now c.loop-e.count c.loop-e.e _ _ h i.counted c.process-z.ensures.0 refl w.if-gates-z.true;
      }
      | else-gates-z w ↦ record {
        few = i.few;
        to = omega (arith, c.loop-e-test.true);
        below = omega (arith, i.below, w.count-is);
        counted = w.count-is ∙ turn_none c.args.full.now c.args.gates.now c.loop-e.count c.loop-e.e _ _ h i.counted c.process-z.ensures.0 refl w.if-gates-z.false;
      }
    ]

pub returns-clause-count : goal.returns-clause-count
returns-clause-count c = λ R T G.
    at_end R c.args.full.now c.args.gates.now _ _ T G c.loop-e.invariant.counted (omega (arith, c.loop-e.invariant.to, c.loop-e.invariant.below, c.loop-e-test.false))
