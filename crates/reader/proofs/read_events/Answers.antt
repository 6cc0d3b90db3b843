-- `reader::read_events` meets its contract, one law for each way a turn goes.
use Prim.Native.Nat.{◌≤◌, ◌+◌}
use mathlib.Core.Path.{◌≡◌, refl, sym, ap, ◌∙◌}
use lib.ListN.{length-append}
use Rattle.trace.specs.Trace.{extended}
use Rattle.reader.proofs.Judging.{fit_judged}
use Rattle.trace.proofs.Counting.{next_tally}
use Rattle.reader.proofs.Cutting.{line_cut}
use Rattle.reader.proofs.Storing.{next_holds}
use Rattle.reader.proofs.Turns.{at_line, turn_end, turn_missing, turn_fit, turn_fails, turn_unfit, out_refused, out_ended, out_same}
use native.Mathlib.Omega.{arith}
use Rattle.std.proofs.Common.{Ok}
use Rattle.reader.specs.declared.Judged.{Judged}
use Rattle.reader.specs.Inner.Reading.{judged}
use Rattle.reader.proofs.read_events.Goals as goal

pub returns-in_default : goal.returns-in_default
returns-in_default c =
    out_refused _ _ _ _ _
    (at_line _ _ _ _ c.at.ensures (sym c.loop-at.invariant.rest ∙ turn_missing _ _ _ _ c.loop-at-test.true (sym c.next_line.ensures ∙ c.in_default.is)))
    c.loop-at.invariant.holds.size

pub append-requires : goal.append-requires
append-requires c =
    let said = c.in-Ok-Event.ensures c.loop-at.invariant.run c.loop-at.invariant.counted in
    let f = fit_judged c.loop-at.invariant.run _ _ _ said (ap (λ (x : Judged). judged (Ok x)) c.in-Ok-Event.field-0-is) in
    (omega (arith, f.0, c.loop-at.invariant.counted.size_is), c.loop-at.invariant.holds.size)

pub tally-requires : goal.tally-requires
tally-requires c =
    let said = c.in-Ok-Event.ensures c.loop-at.invariant.run c.loop-at.invariant.counted in
    let f = fit_judged c.loop-at.invariant.run _ _ _ said (ap (λ (x : Judged). judged (Ok x)) c.in-Ok-Event.field-0-is) in
    record {
      procs = c.loop-at.invariant.run.procs;
      events = c.loop-at.invariant.run.events;
      procs_most = omega (arith, c.requires.procs_most, c.loop-at.invariant.counted.procs_is);
      events_few = f.0;
      tally = c.loop-at.invariant.counted.tally;
      fit = f.1;
    }

pub returns-in-Ok-Failure : goal.returns-in-Ok-Failure
returns-in-Ok-Failure c =
    let said = c.in-Ok-Failure.ensures c.loop-at.invariant.run c.loop-at.invariant.counted in
    out_same _ _ _ _ _ c.loop-at.invariant.rest (turn_fails _ _ _ _ _ _ (sym c.next_line.ensures ∙ c.in-Some.is) _ said _ _ (ap (λ (x : Judged). judged (Ok x)) c.in-Ok-Failure.field-0-is) _ (omega (arith, c.loop-at.invariant.few)) c.loop-at.invariant.holds)

pub returns-in-Err : goal.returns-in-Err
returns-in-Err c =
    let said = c.in-Err.ensures c.loop-at.invariant.run c.loop-at.invariant.counted in
    out_refused _ _ _ _ _
    (at_line _ _ _ _ c.at-in-Err.ensures (sym c.loop-at.invariant.rest ∙ turn_unfit _ _ _ _ _ _ (sym c.next_line.ensures ∙ c.in-Some.is) _ said _ refl))
    c.loop-at.invariant.holds.size

pub loop-at-smaller : goal.loop-at-smaller
loop-at-smaller c =
    let q = line_cut _ _ _ _ (sym c.next_line.ensures ∙ c.in-Some.is) in omega (arith, q.0, q.1)

pub loop-at-preserved : goal.loop-at-preserved
loop-at-preserved c =
    let said = c.in-Ok-Event.ensures c.loop-at.invariant.run c.loop-at.invariant.counted in
    let f = fit_judged c.loop-at.invariant.run _ _ _ said (ap (λ (x : Judged). judged (Ok x)) c.in-Ok-Event.field-0-is) in
    let q = line_cut _ _ _ _ (sym c.next_line.ensures ∙ c.in-Some.is) in
    let k : c.loop-at.n + 2 + 1 ≡ c.loop-at.n + 1 + 2 = omega arith in
    let most : c.loop-at.invariant.run.procs ≤ 64 = omega (arith, c.requires.procs_most, c.loop-at.invariant.counted.procs_is) in
    record {
      run = extended c.loop-at.invariant.run c.in-Ok-Event.event;
      counted = record {
        procs_is = c.loop-at.invariant.counted.procs_is;
        tally = rw c.tally.ensures (next_tally c.loop-at.invariant.run.procs c.loop-at.invariant.run.events _ most c.loop-at.invariant.counted.tally _ f.1);
        size_is = rw (length-append, c.loop-at.invariant.counted.size_is);
      };
      few = omega (arith, f.0, c.loop-at.invariant.counted.size_is);
      within = omega (arith, q.1);
      holds = rw (c.append.ensures, c.loop-at.invariant.counted.size_is) (next_holds c.loop-at.invariant.run _ _ c.loop-at.invariant.holds f.0);
      rest = rw (← k) (sym (turn_fit _ _ _ _ _ _ (sym c.next_line.ensures ∙ c.in-Some.is) _ said _ (ap (λ (x : Judged). judged (Ok x)) c.in-Ok-Event.field-0-is)) ∙ c.loop-at.invariant.rest);
    }

pub returns : goal.returns
returns c =
    out_ended _ _ _ _ _ (sym c.loop-at.invariant.rest ∙ turn_end _ _ _ _ c.loop-at-test.false) c.loop-at.invariant.holds
