-- What the protocol part promises: the columns and the flags of the full table, by the contract of `tabulate` (their
-- meaning: crates/columns/specs/Inner/Columns.antt), and the laws of a recorded run. The quotation is from the
-- requirements.
use Prim.Native.Nat.{ℕ, ◌≤◌}
use mathlib.Core.Path.{◌≡◌}
use mathlib.Core.Bool.{true}
use mathlib.Core.List.{List}
use Rattle.trace.specs.Fit.{well_formed}
use Rattle.table.specs.Held.{held, holds_trace}
use Rattle.theory.specs.Events.{size}
use Rattle.theory.specs.Epochs.{Rule}
use Rattle.theory.specs.Line.{recorded}
use Rattle.theory.specs.Inner.Laws.{Laws}
use Rattle.theory.proofs.Epochs.{laws}
use Rattle.protocol.proofs.Passes.{held_formed, held_valid}

-- "Recovery relies on what the protocol part promises and never on the text." The trace that an area holds is well
-- formed, and with any failure, line and rule of logging it is a recorded run with the laws.
pub well_formed_lem : (a : List ℕ) → holds_trace a ≡ true → well_formed (held a) ≡ true
well_formed_lem = held_formed

pub recorded_laws : (a : List ℕ) → holds_trace a ≡ true → (rule : Rule) (cut : ℕ) (line : ℕ → ℕ) → cut ≤ size (held a) → Laws (recorded (held a) rule cut line)
recorded_laws a h rule cut line l = laws (held a) rule (held_valid a h) cut line l
