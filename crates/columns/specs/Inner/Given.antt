-- What the layers of recovery are given of a recorded run: the full table, and the gates of its line. They know nothing
-- else of it, whichever messages it has logged.
use Rattle.std.specs.Prelude.{ℕ, ◌+◌, ◌<◌, ◌≤◌, ◌≡◌, List, length, get_or}
use Rattle.trace.specs.Trace.{Trace}
use Rattle.theory.specs.Epochs.{Rule, phase_at, logged_by, rule_of}
use Rattle.theory.specs.Line.{Run}
use Rattle.theory.specs.Replay.{gate}
use Rattle.theory.specs.Inner.Laws.{Laws}
use Rattle.columns.specs.Inner.Columns.{Tabled, Flagged}

-- the full table of a trace, with the messages marked that a rule logs
pub record Marked (t : Trace) (rule : Rule) (full : List ℕ) : Type 0 where
  pub tabled : Tabled t full
  pub flags : Flagged t (logged_by t rule) full

-- The full table tells the run: its trace, its phases, which of its messages are logged; and the run has the laws.
pub record Tells (R : Run) (full : List ℕ) : Type 0 where
  pub tabled : Tabled R.trace full
  pub flags : Flagged R.trace R.logged full
  pub phases : (z x : ℕ) → R.phase z x ≡ phase_at R.trace (rule_of R.trace) z x
  pub laws : Laws R

-- The gates are those of the run: word z the gate of process z, word 64 + z the event that it restarts after. Only its
-- own processes are told of: no gate of another is asked.
pub record Gated (R : Run) (g : List ℕ) : Type 0 where
  pub long : 128 ≤ length g
  pub gates : (z : ℕ) → z < R.trace.procs → get_or g z 0 ≡ gate R z
  pub places : (z : ℕ) → z < R.trace.procs → get_or g (64 + z) 0 ≡ R.restart z

-- the words that tell a run with a failure right after event `cut`
pub record Given (R : Run) (cut : ℕ) (full gates : List ℕ) : Type 0 where
  pub tells : Tells R full
  pub cut_is : cut ≡ R.cut
  pub gated : Gated R gates
