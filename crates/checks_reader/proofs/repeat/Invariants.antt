use Rattle.std.proofs.Common.{◌≡◌, ◌≤◌, length}
use Rattle.checks_reader.proofs.repeat.Given as goal

abbrev pub invariant-loop : goal.invariant-loop
invariant-loop l = (l.at ≤ length l.text) × (length l.text ≡ length l.initial.text)
