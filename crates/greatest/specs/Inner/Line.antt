-- The greatest line for any marking of the logged messages that a rule gives. With the trace's own rule it is the
-- engine's line.
use Rattle.std.specs.Prelude.{List, ℕ, ◌≤◌}
use Rattle.trace.specs.Trace.{Trace}
use Rattle.theory.specs.Events.{size}
use Rattle.theory.specs.Epochs.{Rule}
use Rattle.theory.specs.Line.{in_set, greatest_line, usable_at}
use Rattle.columns.specs.Inner.Given.{Marked}

abbrev pub line_by : Trace → Rule → ℕ → ℕ → ℕ → ℕ
line_by t rule cut set = greatest_line t rule cut (usable_at t cut) (in_set set)

-- what the greatest line is looked for in: the table of a trace, its messages marked by a rule, and a cut of it
pub record Sought (t : Trace) (rule : Rule) (full : List ℕ) (cut : ℕ) : Type 0 where
  pub marked : Marked t rule full
  pub cut_in : cut ≤ size t
