-- What a replay leaves in the run area: the record. Word e the number, word `taken_base b + e` half b of the value of
-- the message that receive e took; the rest 0. Definitions only. Quotations are from the requirements (MANUAL 5.6).
use Rattle.std.specs.Prelude.{ℕ, ◌+◌, ◌-◌, ltb, get_or, ◌&&◌, cond, List, map}
use Rattle.words.specs.Halves.{half, from_halves}
use Rattle.trace.specs.Trace.{Trace, value_of}
use Rattle.theory.specs.Lists.{iv, keep}
use Rattle.theory.specs.Events.{Kind, send, recv, other, size, event_at, at, kind, recvs, rcvd, send_of}
use Rattle.theory.specs.Line.{Run}
use Rattle.theory.specs.Replay.{State}
use Rattle.machine.specs.Taken.{taken_base, record_end, taken_number, taken_value}

-- word k of a record, by what each receive took: its number and its value
unfoldable pub record_word : (ℕ → ℕ) → (ℕ → ℕ) → ℕ → ℕ
record_word number value k =
    cond (ltb k (taken_base 0)) (number k)
    (cond (ltb k (taken_base 1)) (half 0 (value (k - taken_base 0)))
    (cond (ltb k record_end) (half 1 (value (k - taken_base 1))) 0))

module _ (R : Run) where
  -- word k of the record of a state
  unfoldable pub record_at : State → ℕ → ℕ
  record_at s = record_word (taken_number R s) (taken_value R s)

-- what the words of a run area say of receive e: number and value. "Records and equality of records use the wide
-- value".
abbrev pub entry_in : List ℕ → ℕ → ℕ × ℕ
entry_in w e = (get_or w e 0, from_halves (get_or w (taken_base 0 + e) 0) (get_or w (taken_base 1 + e) 0))

module _ (t : Trace) where
  -- the record of the run without failure: each receive of the trace took the oldest message in transit
  abbrev pub received_number : ℕ → Kind → ℕ
  received_number e (send q) = 0
  received_number e (recv p) = rcvd t p (at t e) e
  received_number e other = 0

  abbrev pub received_value : ℕ → Kind → ℕ
  received_value e (send q) = 0
  received_value e (recv p) = value_of (event_at t (send_of t p (at t e) (rcvd t p (at t e) e)))
  received_value e other = 0

  unfoldable pub faultless_at : ℕ → ℕ
  faultless_at = record_word (λ e. received_number e (kind t e)) (λ e. received_value e (kind t e))

  -- "The delivery record has one list for each channel: number and value of each message its receiver received there,
  -- in that order.": the list of a channel, read from the words of a run area. A receive that took no message has
  -- number 0.
  unfoldable pub list_in : List ℕ → ℕ → ℕ → List (ℕ × ℕ)
  list_in w p q = map (entry_in w) (keep (λ e. recvs t p q e && ltb 0 (get_or w e 0)) (iv 0 (size t)))
