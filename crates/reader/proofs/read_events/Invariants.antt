-- `reader::read_events` meets its contract: between two lines the table and the counters are those of the events so
-- far, and what the lines from here give is what they give from the start.
use Prim.Native.Nat.{ℕ, ◌≤◌, ◌-◌, ◌+◌}
use mathlib.Core.Path.{◌≡◌}
use mathlib.Core.List.{List}
use lib.ListN.{length, drop}
use Rattle.trace.specs.Trace.{Trace, started}
use Rattle.reader.specs.Verdict.{pieces, lines_from}
use Rattle.reader.specs.Inner.Reading.{Holds, Tallied}
use Rattle.reader.proofs.read_events.Given as goal

-- Between two lines: the trace so far, which the counters count and the table holds; after it the lines from here on
-- give what all lines give.
pub record Between (text : List ℕ) (from procs : ℕ) (table counts : List ℕ) (at n : ℕ) : Type 0 where
  pub run : Trace
  pub counted : Tallied counts procs n run
  pub few : n ≤ 2048
  pub within : at ≤ length text
  pub holds : Holds table run
  pub rest : lines_from run (n + 2) (pieces (drop at text)) ≡ lines_from (started procs) 2 (pieces (drop from text))

abbrev pub invariant-loop-at : goal.invariant-loop-at
invariant-loop-at l = Between l.text l.from l.procs l.table l.counts l.at l.n

abbrev pub decreases-loop-at : goal.decreases-loop-at
decreases-loop-at l = length l.text - l.at
