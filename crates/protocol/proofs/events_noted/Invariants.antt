-- `protocol::events_noted` meets its contract: before event e the earlier ones are noted, and the rest says what all say.
use Rattle.std.proofs.Common.{◌≡◌, length}
use Rattle.protocol.proofs.Passes.{Judged}
use Rattle.protocol.proofs.events_noted.Given as goal

abbrev pub invariant-loop-e : goal.invariant-loop-e
invariant-loop-e l = (length l.full ≡ length l.initial.full) × (length l.work ≡ length l.initial.work) × Judged l.initial.full l.procs l.n l.full l.work l.e
