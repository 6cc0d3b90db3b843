use Rattle.std.proofs.Common.{◌≡◌, ◌≤◌, length}
use Rattle.sequences.proofs.put_trace.Given as goal

abbrev pub invariant-loop-i : goal.invariant-loop-i
invariant-loop-i l = (l.to ≤ length l.text) × (length l.text ≡ length l.initial.text)
