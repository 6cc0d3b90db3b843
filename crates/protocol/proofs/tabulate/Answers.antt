-- `protocol::tabulate` meets its contract: what is filled are the area's words, and their tests are check 13.
use mathlib.Core.Path.{refl, sym, ◌∙◌}
use mathlib.Core.Bool.{false}
use borrow.Author.Tests.{eq-eqb}
use Rattle.words.proofs.Cases.{clash}
use Rattle.table.proofs.Turns.{frame_facts, no_frame}
use Rattle.table.proofs.Testing.{tested_holds}
use Rattle.protocol.proofs.Passes.{copied_sized, copied_holds, copied_fillable}
use native.Mathlib.Omega.{arith}
use Rattle.protocol.proofs.tabulate.Goals as goal

pub returns-then-not-frame_fits : goal.returns-then-not-frame_fits
returns-then-not-frame_fits c =
    record {
      answer = rw (eq-eqb _ _ c.if-full-ne-FULL_WORDS.false) (no_frame _ (sym c.frame_fits.ensures ∙ c.if-not-frame_fits.true) ∙ tested_holds _);
      columns = λ z. clash {b = false} z refl;
      flags = λ z. clash {b = false} z refl;
      untouched = λ z. refl;
    }

pub copy-requires : goal.copy-requires
copy-requires c =
    let F = frame_facts c.args.area.now (sym c.frame_fits.ensures ∙ c.if-not-frame_fits.false) in (omega (arith, F.size), omega arith)

pub fill-requires : goal.fill-requires
fill-requires c =
    copied_sized c.args.area.now c.copy.new.full (sym c.frame_fits.ensures ∙ c.if-not-frame_fits.false) (c.copy.auto.full ∙ c.if-full-ne-FULL_WORDS.false) c.copy.ensures

pub returns : goal.returns
returns c =
    let holds = copied_holds c.args.area.now c.copy.new.full (sym c.frame_fits.ensures ∙ c.if-not-frame_fits.false) (c.copy.auto.full ∙ c.if-full-ne-FULL_WORDS.false) c.copy.ensures _ c.fill.ensures.answer in
    let ready = copied_fillable c.args.area.now c.copy.new.full (sym c.frame_fits.ensures ∙ c.if-not-frame_fits.false) (c.copy.auto.full ∙ c.if-full-ne-FULL_WORDS.false) c.copy.ensures in
    record {
      answer = rw (eq-eqb _ _ c.if-full-ne-FULL_WORDS.false) holds;
      columns = λ z. (c.fill.ensures.columns _ (ready (sym holds ∙ z))).0;
      flags = λ z. (c.fill.ensures.columns _ (ready (sym holds ∙ z))).1;
      untouched = λ z. clash (rw (eq-eqb _ _ c.if-full-ne-FULL_WORDS.false) (sym c.frame_fits.ensures ∙ c.if-not-frame_fits.false)) z;
    }
