-- What the gates of a line are made from.
use Rattle.std.specs.Prelude.{ℕ, ◌-◌, ◌<◌, ◌≤◌, ◌≡◌, ◌⊎◌, cond, List, eqb}
use Rattle.trace.specs.Trace.{Trace}
use Rattle.theory.specs.Events.{size}
use Rattle.theory.specs.Epochs.{rule_of}
use Rattle.theory.specs.Line.{current}
use Rattle.columns.specs.Inner.Columns.{Tabled}
use Rattle.recovery_line.specs.declared.Line.{Line}
use Rattle.recovery_line.specs.Given.{line_in}
use Rattle.positions.specs.Inner.Positions.{Linked}

-- a gate, by the line's number and the phase at the restart
abbrev pub gate_by : ℕ → ℕ → ℕ
gate_by number phase = cond (eqb number 32) phase (phase - 1)

-- the full table of a trace with its events linked, and a line that may be taken
pub record Settable (t : Trace) (full earlier latest : List ℕ) (line : Line) (cut : ℕ) : Type 0 where
  pub tabled : Tabled t full
  pub within : cut ≤ size t
  pub linked : Linked full cut earlier latest
  pub count_is : line.count ≡ t.procs
  pub numbers : (z : ℕ) → z < t.procs → (line_in line z ≡ 32) ⊎ ((1 ≤ line_in line z) × (line_in line z ≤ current t (rule_of t) cut z))
