-- the search from here finds what the search from the place does
use Rattle.std.proofs.Common.{◌≡◌, ◌+◌, ◌≤◌, length, drop}
use Rattle.checks.specs.Inner.Rows.{before}
use Rattle.checks.proofs.find.Given as goal

abbrev pub invariant-loop-i : goal.invariant-loop-i
invariant-loop-i l =
    (l.from ≤ l.i) × (l.i ≤ length l.bytes)
    × (l.i + before l.b (drop l.i l.bytes) ≡ l.from + before l.b (drop l.from l.bytes))
