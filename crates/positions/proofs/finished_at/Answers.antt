use lib.ListN.{length-set}
use Rattle.positions.proofs.Finishing.{cut_few, none_finished, finished_most, turn_unfinished, turn_finished}
use native.Mathlib.Omega.{arith}
use Rattle.std.proofs.Common.{◌<◌, ◌-◌, ◌∙◌}
use Rattle.positions.proofs.finished_at.Goals as goal
use Rattle.positions.proofs.finished_at.Goals.{then-done, else-done}

pub overflow_add-e-end : goal.overflow_add-e-end
overflow_add-e-end c =
    omega (arith, cut_few _ _ _ _ c.requires.1)

pub loop-e-init : goal.loop-e-init
loop-e-init c = record {
  to = omega arith;
  wide = c.requires.1.wide;
  counted = none_finished c.args.full.now c.args.finished.now c.requires.1.ones;
}

pub overflow_add-w : goal.overflow_add-w
overflow_add-w c =
    omega (arith, cut_few _ _ _ _ c.requires.1, c.loop-e-test.true)

pub offset_bounds-full-e : goal.offset_bounds-full-e
offset_bounds-full-e c =
    omega (arith, cut_few _ _ _ _ c.requires.1, c.loop-e-test.true)

pub bounds-full-e : goal.bounds-full-e
bounds-full-e c =
    omega (arith, c.requires.1.tabled.columns.whole, cut_few _ _ _ _ c.requires.1, c.loop-e-test.true)

pub overflow_add-finished : goal.overflow_add-finished
overflow_add-finished c =
    omega (arith, finished_most c.requires.0 _ c.requires.1.tabled (c.loop-e.e - 1) c.loop-e.finished c.loop-e.invariant.counted (omega (arith, c.loop-e-test.true, c.requires.1.within)) c.process.result c.process.ensures.1)

pub loop-e-preserved : goal.loop-e-preserved
loop-e-preserved c =
    let i = c.loop-e.invariant in
    let p : 0 < c.loop-e.e = omega (arith, c.loop-e.auto.e) in
    elim c.if-done.branch [
      | then-done w ↦ record {
        to = omega (arith, c.loop-e-test.true);
        wide = c.if-done.auto.finished ∙ i.wide;
        counted = rw w.finished-is (turn_finished _ _ p _ i.counted _ c.kind-done.ensures w.if-done.true _ w.process.ensures.0 i.wide);
      }
      | else-done w ↦ record {
        to = omega (arith, c.loop-e-test.true);
        wide = c.if-done.auto.finished ∙ i.wide;
        counted = rw w.finished-is (turn_unfinished _ _ p _ i.counted _ c.kind-done.ensures w.if-done.false);
      }
    ]
