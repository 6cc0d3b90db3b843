-- `table::events_fit` meets its contract: each turn tests one event more.
use mathlib.Core.Path.{◌≡◌, refl, sym, ap, ◌∙◌}
use mathlib.Core.List.{[], ◌∷◌, ◌++◌}
use Prim.Native.Nat.{ℕ, ◌+◌, ◌-◌}
use native.Mathlib.Omega.{arith}
use lib.Dec.{eqb}
use lib.ListN.{length-append}
use borrow.Author.Tests.{eq-eqb, ne_eqb}
use Rattle.table.proofs.Turns.{events_end, events_none, events_next}
use Rattle.table.specs.Held.{held_event}
use Rattle.table.specs.Inner.Tested.{fit_by}
use Rattle.trace.proofs.Faults.{fault_counted, unfit_some}
use Rattle.trace.proofs.Counting.{next_tally, none_tally}
use Rattle.table.proofs.events_fit.Goals as goal

pub loop-i-init : goal.loop-i-init
loop-i-init c =
    let q : c.args.n + 1 - 1 ≡ c.args.n = omega arith in
    record { events = []; count = refl; within = omega arith; tally = none_tally; rest = rw q }

pub returns-in_default : goal.returns-in_default
returns-in_default c =
    let halves = rw c.from_halves-value.ensures.number at c.from_halves-value.ensures.halves in
    let read = rw c.from_halves-value.ensures.number at (sym c.read_event.ensures ∙ c.in_default.is) in
    let same = fault_counted c.args.procs c.requires.0 c.loop-i.counts c.loop-i.invariant.events c.loop-i.invariant.tally (held_event c.args.area.now c.loop-i.i) in
    sym (events_none c.args.procs c.loop-i.invariant.events c.args.area.now c.loop-i.i c.args.n (omega arith) (fit_by c.args.procs c.loop-i.counts) (ap (λ (x : ℕ). eqb x 0) same) halves.0 halves.1 read)
    ∙ c.loop-i.invariant.rest

pub returns-in-Err : goal.returns-in-Err
returns-in-Err c =
    let halves = rw c.from_halves-value.ensures.number at c.from_halves-value.ensures.halves in
    let read = rw c.from_halves-value.ensures.number at (sym c.read_event.ensures ∙ c.in-Some.is) in
    let same = fault_counted c.args.procs c.requires.0 c.loop-i.counts c.loop-i.invariant.events c.loop-i.invariant.tally (held_event c.args.area.now c.loop-i.i) in
    let unfit = ne_eqb _ 0 (λ q. unfit_some _ (c.in-Err.ensures ∙ q)) in
    sym (rw unfit at (events_next c.args.procs c.loop-i.invariant.events c.args.area.now c.loop-i.i c.args.n (omega arith) (fit_by c.args.procs c.loop-i.counts) (ap (λ (x : ℕ). eqb x 0) same) halves.0 halves.1 _ read))
    ∙ c.loop-i.invariant.rest

pub tally-requires : goal.tally-requires
tally-requires c =
    record {
      procs = c.args.procs;
      events = c.loop-i.invariant.events;
      procs_most = c.requires.0;
      events_few = omega (arith, c.loop-i.invariant.count);
      tally = c.loop-i.invariant.tally;
      fit = sym (fault_counted c.args.procs c.requires.0 _ c.loop-i.invariant.events c.loop-i.invariant.tally _) ∙ sym c.in-Ok.ensures;
    }

pub loop-i-preserved : goal.loop-i-preserved
loop-i-preserved c =
    let halves = rw c.from_halves-value.ensures.number at c.from_halves-value.ensures.halves in
    let read = rw c.from_halves-value.ensures.number at (sym c.read_event.ensures ∙ c.in-Some.is) in
    let same = fault_counted c.args.procs c.requires.0 c.loop-i.counts c.loop-i.invariant.events c.loop-i.invariant.tally (held_event c.args.area.now c.loop-i.i) in
    let fit = eq-eqb _ 0 (sym c.in-Ok.ensures) in
    record {
      events = c.loop-i.invariant.events ++ c.in-Some.event ∷ [];
      count = rw (length-append, c.loop-i.invariant.count);
      within = omega arith;
      tally = rw c.tally.ensures (next_tally c.args.procs c.loop-i.invariant.events _ c.requires.0 c.loop-i.invariant.tally _
          (sym (fault_counted c.args.procs c.requires.0 _ c.loop-i.invariant.events c.loop-i.invariant.tally _) ∙ sym c.in-Ok.ensures));
      rest = sym (rw fit at (events_next c.args.procs c.loop-i.invariant.events c.args.area.now c.loop-i.i c.args.n (omega arith) (fit_by c.args.procs c.loop-i.counts) (ap (λ (x : ℕ). eqb x 0) same) halves.0 halves.1 _ read))
          ∙ c.loop-i.invariant.rest;
    }

pub returns : goal.returns
returns c =
    sym (events_end _ _ _ _ _ (omega arith)) ∙ c.loop-i.invariant.rest
