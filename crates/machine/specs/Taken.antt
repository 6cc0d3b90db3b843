-- What the receives of a replay have taken, as the run area has it.
use Rattle.std.specs.Prelude.{◌&&◌, cond, List, map, ℕ, ◌+◌, ◌-◌, ◌*◌, get_or, ltb, leb}
use Rattle.theory.specs.Events.{Kind, send, recv, other, size, at, kind, rcvd, value}
use Rattle.theory.specs.Line.{Run}
use Rattle.theory.specs.Replay.{State}

-- The run area: word e the number of the message that receive e took, word `taken_base b + e` half b of its value; then
-- working words, zero again at the end.
abbrev pub taken_base : ℕ → ℕ
taken_base b = 2049 + 2049 * b

-- where the words of the record end
abbrev pub record_end : ℕ
record_end = 6147

module _ (R : Run) where
  -- what the receive e has taken: number and value, or 0
  abbrev pub took_number : (ℕ → ℕ → List ℕ) → ℕ → Kind → ℕ
  took_number got e (send q) = 0
  took_number got e (recv p) = get_or (got p (at R.trace e)) (rcvd R.trace p (at R.trace e) e - 1) 0
  took_number got e other = 0

  abbrev pub took_value : (ℕ → ℕ → List ℕ) → ℕ → Kind → ℕ
  took_value got e (send q) = 0
  took_value got e (recv p) = get_or (map (value R.trace p (at R.trace e)) (got p (at R.trace e))) (rcvd R.trace p (at R.trace e) e - 1) 0
  took_value got e other = 0

  unfoldable pub taken_number : State → ℕ → ℕ
  taken_number s e = cond (ltb 0 e && leb e (size R.trace)) (took_number s.got e (kind R.trace e)) 0

  unfoldable pub taken_value : State → ℕ → ℕ
  taken_value s e = cond (ltb 0 e && leb e (size R.trace)) (took_value s.got e (kind R.trace e)) 0
