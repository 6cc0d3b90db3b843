-- `writer::digits_of` meets its contract: the digits from place i on, and what is left of the number.
use Rattle.std.proofs.Common.{◌≡◌, ◌++◌, length, drop}
use Rattle.text.specs.Number.{last_digits, decimal}
use Rattle.writer.proofs.digits_of.Given as goal

abbrev pub invariant-loop-i : goal.invariant-loop-i
invariant-loop-i l = (length l.digits ≡ 20) × (last_digits l.i l.v ++ drop l.i l.digits ≡ decimal l.n)
