-- The trace that a table area holds, where it holds one.
use Rattle.std.specs.Prelude.{ℕ, List, cond}
use Rattle.std.proofs.Math.Option.{Option, none, some}
use Rattle.trace.specs.Trace.{Trace}
use Rattle.table.specs.Held.{held, holds_trace}

unfoldable pub held_trace : List ℕ → Option Trace
held_trace a = cond (holds_trace a) (some (held a)) none
