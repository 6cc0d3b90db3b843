-- `table::events_fit` meets its contract: before event number i the counters are those of the events before it, and
-- what the tests from here say is what they say from event 1.
use mathlib.Core.Path.{◌≡◌}
use mathlib.Core.List.{List, []}
use Prim.Native.Nat.{ℕ, ◌+◌, ◌-◌, ◌≤◌}
use lib.ListN.{length}
use Rattle.table.specs.Inner.Tested.{fit_from}
use Rattle.trace.specs.declared.Event.{Event}
use Rattle.trace.specs.Inner.Tally.{Tally}
use Rattle.table.proofs.events_fit.Given as goal

-- before event number i: the events before it, which the counters count; the tests from here say what all say
pub record Before (area : List ℕ) (procs n : ℕ) (counts : List ℕ) (i : ℕ) : Type 0 where
  pub events : List Event
  pub count : length events + 1 ≡ i
  pub within : i ≤ n + 1
  pub tally : Tally counts events
  pub rest : fit_from procs events area i (n + 1 - i) ≡ fit_from procs [] area 1 n

abbrev pub invariant-loop-i : goal.invariant-loop-i
invariant-loop-i l = Before l.area l.procs l.n l.counts l.i
