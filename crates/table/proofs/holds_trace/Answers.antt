-- `table::holds_trace` meets its contract: the tests are those of the definition.
use mathlib.Core.Path.{sym, ◌∙◌}
use Rattle.table.proofs.Turns.{frame_facts, no_frame, frame_events}
use Rattle.table.proofs.Testing.{tested_holds}
use native.Mathlib.Omega.{arith}
use Rattle.table.proofs.holds_trace.Goals as goal

pub returns-then-not-frame_fits : goal.returns-then-not-frame_fits
returns-then-not-frame_fits c =
    no_frame _ (sym c.frame_fits.ensures ∙ c.if-not-frame_fits.true) ∙ tested_holds _

pub bounds-area-0 : goal.bounds-area-0
bounds-area-0 c =
    let F = frame_facts c.args.area.now (sym c.frame_fits.ensures ∙ c.if-not-frame_fits.false) in omega (arith, F.size)

pub bounds-area-1 : goal.bounds-area-1
bounds-area-1 c =
    let F = frame_facts c.args.area.now (sym c.frame_fits.ensures ∙ c.if-not-frame_fits.false) in omega (arith, F.size)

pub events_fit-requires : goal.events_fit-requires
events_fit-requires c =
    let F = frame_facts c.args.area.now (sym c.frame_fits.ensures ∙ c.if-not-frame_fits.false) in (omega (arith, F.most, c.from.ensures), F.few, F.size)

pub returns : goal.returns
returns c =
    let e = rw c.from.ensures at c.events_fit.ensures in
    frame_events _ (sym c.frame_fits.ensures ∙ c.if-not-frame_fits.false) _ e ∙ tested_holds _
