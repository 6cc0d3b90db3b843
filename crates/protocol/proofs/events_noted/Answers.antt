use mathlib.Core.Path.{refl, sym, ◌∙◌}
use Prim.Native.Nat.{◌+◌, ◌≤◌}
use Rattle.words.proofs.Cases.{clash}
use Rattle.protocol.proofs.Passes.{judged_awaits, judged_none, judged_one, judged_all, judged_columns, fillable_fits}
use native.Mathlib.Omega.{arith}
use Rattle.protocol.proofs.events_noted.Goals as goal

pub word_noted-requires : goal.word_noted-requires
word_noted-requires c =
    judged_awaits _ _ _ _ _ c.loop-e.e c.loop-e.invariant.2 (omega (arith, c.loop-e-test.true))

pub returns-then-not-word_noted : goal.returns-then-not-word_noted
returns-then-not-word_noted c =
    let none = judged_none _ _ _ _ _ c.loop-e.e c.loop-e.invariant.2 (omega (arith, c.loop-e-test.true)) (omega (arith, c.slice_known-1.given (2065 + c.loop-e.e))) (omega (arith, c.slice_known-1.given (4114 + c.loop-e.e))) _ c.word_noted.ensures.answer (c.if-not-word_noted.true) in
    record {
      answer = none;
      columns = λ t F. clash (fillable_fits t c.args.full.now F) (sym none);
    }

pub loop-e-preserved : goal.loop-e-preserved
loop-e-preserved c =
    (c.word_noted.auto.full ∙ c.loop-e.invariant.0, c.word_noted.auto.work ∙ c.loop-e.invariant.1, (let yes = c.if-not-word_noted.false in judged_one _ _ _ _ _ c.loop-e.e c.loop-e.invariant.2 (omega (arith, c.loop-e-test.true)) (omega (arith, c.slice_known-1.given (2065 + c.loop-e.e))) (omega (arith, c.slice_known-1.given (4114 + c.loop-e.e))) _ c.word_noted.ensures.answer yes _ _ (c.word_noted.ensures.columns yes) (c.word_noted.ensures.working yes)))

pub returns : goal.returns
returns c =
    record {
      answer = judged_all _ _ _ _ _ c.loop-e.e c.loop-e.invariant.2 c.loop-e-test.false;
      columns = λ t F. judged_columns _ _ _ _ _ c.loop-e.e c.loop-e.invariant.2 c.loop-e-test.false refl t F;
    }
