-- `text::digits` meets its contract: the digits still to be read carry the value on to what they give from the start.
use mathlib.Core.Path.{◌≡◌}
use Prim.Native.Nat.{◌≤◌}
use lib.ListN.{length, drop}
use Rattle.text.specs.Number.{digits_from}
use Rattle.text.proofs.digits.Given as goal

abbrev pub invariant-loop-at : goal.invariant-loop-at
invariant-loop-at l = (l.at ≤ length l.text) × (digits_from l.bound l.v l.at (drop l.at l.text) ≡ digits_from l.bound l.value l.from (drop l.from l.text))
