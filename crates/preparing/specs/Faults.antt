-- What is wrong with what a call is given, for every input (MANUAL 6.3: the order is 12, 13, 8, 9, 10), and the run
-- that it names. Quotations are from the requirements.
use Rattle.std.specs.Prelude.{ℕ, not, cond, List, length, ltb}
use Rattle.words.specs.Area.{area_words}
use Rattle.table.specs.Held.{held, holds_trace}
use Rattle.theory.specs.Line.{Run, run_at}
use Rattle.theory.specs.Refusals.{failure_fault, line_fault}
use Rattle.recovery_line.specs.declared.Line.{Line}
use Rattle.recovery_line.specs.Given.{line_in}

-- "12: a table or run area is under 16,384 words of 32 bits. 13: the first 16,384 words of the table area aren't what
-- reading some accepted trace leaves there." `room` is how many words the run area has; with `rest`, what is looked for
-- next.
abbrev pub areas_or : List ℕ → ℕ → ℕ → ℕ
areas_or a room rest = cond (ltb (length a) area_words) 12 (cond (ltb room area_words) 12 (cond (not (holds_trace a)) 13 rest))

-- what is wrong with the table area and the failure: 12, 13, 8, 9, or 0; no run area is asked for
unfoldable pub failure_fault_of : List ℕ → ℕ → ℕ → ℕ
failure_fault_of a step set = areas_or a area_words (failure_fault (held a) step set)

-- the recorded run of the trace that a table area holds, with a failure and a line
abbrev pub run_of : List ℕ → ℕ → Line → Run
run_of a step l = run_at (held a) step (line_in l)

-- what is wrong with the areas, the failure and the line: 12, 13, 8, 9, 10, or 0
unfoldable pub line_fault_of : List ℕ → ℕ → ℕ → ℕ → Line → ℕ
line_fault_of a room step set l = areas_or a room (line_fault (held a) step set l.count (line_in l))
