-- What a call has once nothing is wrong with what it was given. No public contract cites these.
use Rattle.std.specs.Prelude.{ℕ, ◌≤◌, ◌≡◌, true, List, length}
use Rattle.words.specs.Area.{area_words}
use Rattle.trace.specs.Trace.{Trace}
use Rattle.table.specs.Held.{held, holds_trace}
use Rattle.theory.specs.Events.{size}
use Rattle.theory.specs.Epochs.{rule_of}
use Rattle.theory.specs.Line.{in_set, Permitted, usable_at}
use Rattle.theory.specs.Refusals.{failure_fault}
use Rattle.columns.specs.Inner.Given.{Marked, Given}
use Rattle.recovery_line.specs.declared.Line.{Line}
use Rattle.recovery_line.specs.Given.{line_in}
use Rattle.preparing.specs.Faults.{areas_or, run_of}

-- the areas are fit, and the full table is filled
pub record TableOpened (a : List ℕ) (room : ℕ) (full : List ℕ) : Type 0 where
  pub long : area_words ≤ length a
  pub enough : area_words ≤ room
  pub holds : holds_trace a ≡ true
  pub marked : Marked (held a) (rule_of (held a)) full

-- what is wrong with the areas and the failure: 12, 13, 8, 9, or 0
abbrev pub failure_fault_in : List ℕ → ℕ → ℕ → ℕ → ℕ
failure_fault_in a room step set = areas_or a room (failure_fault (held a) step set)

-- and the failure is fit
pub record Tabulated (a : List ℕ) (room step set : ℕ) (full : List ℕ) : Type 0 where
  pub opened : TableOpened a room full
  pub fit : failure_fault (held a) step set ≡ 0

-- the full table of a trace, and a line that may be taken after a failure right after event `cut`
pub record Takeable (t : Trace) (full : List ℕ) (line : Line) (cut : ℕ) : Type 0 where
  pub marked : Marked t (rule_of t) full
  pub within : cut ≤ size t
  pub count_is : line.count ≡ t.procs
  pub failed : ℕ
  pub permitted : Permitted t (rule_of t) cut (usable_at t cut) (in_set failed) (line_in line)

-- the full table and the gates of a line
pub record Prepared (a : List ℕ) (room step : ℕ) (l : Line) (full gates : List ℕ) : Type 0 where
  pub opened : TableOpened a room full
  pub given : Given (run_of a step l) step full gates
