-- `report::report_in` meets its contract: the failure is refused, or its recovery is written.
use mathlib.Core.Bool.{true}
use mathlib.Core.Path.{sym, ◌∙◌}
use Rattle.columns.proofs.Full.{size_is}
use Rattle.refusal.proofs.Refusals.{no_number_0}
use Rattle.report.proofs.Ways.{answered, marked, failure_refused, recovered}
use native.Mathlib.Omega.{arith}
use Rattle.report.proofs.report_in.Goals as goal

pub report_from-requires : goal.report_from-requires
report_from-requires c =
    let m = marked c.requires.0 _ c.fill_in_place.new.full c.requires.1 (c.fill_in_place.ensures c.requires.0 c.requires.1) in
    (c.requires.0, m, omega (arith, size_is c.requires.0 c.fill_in_place.new.full m.tabled, c.in-Ok.ensures.within))

pub returns-in-Ok : goal.returns-in-Ok
returns-in-Ok c =
    λ t text f e. let m = marked t _ c.fill_in_place.new.full f (c.fill_in_place.ensures t f) in
    recovered text t c.args.step c.args.set e (c.in-Ok.ensures.number t m.tabled) _ _ _
    (c.report_from.ensures t m (omega (arith, size_is t c.fill_in_place.new.full m.tabled, c.in-Ok.ensures.within)))

pub returns-in-Err : goal.returns-in-Err
returns-in-Err c =
    λ t text f e. let m = marked t _ c.fill_in_place.new.full f (c.fill_in_place.ensures t f) in
    answered _ text _ _ _ true (failure_refused text t c.args.step c.args.set e _ (c.number.ensures ∙ c.in-Err.ensures.number t m.tabled) (λ z. no_number_0 _ (sym c.number.ensures ∙ z))) c.put_refusal.ensures
