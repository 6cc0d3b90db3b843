-- The replay machine (MANUAL 5.1 to 5.4): its states, when a phase is ready, and the one step of each choice.
-- Quotations are from the requirements.
use Rattle.std.specs.Prelude.{Bool, ◌&&◌, cond, ℕ, ◌-◌, leb, eqb}
use Rattle.std.proofs.Math.Bool.{true, false}
use mathlib.Core.List.{List, [], ◌∷◌, ◌++◌, map}
use Rattle.std.proofs.Math.Option.{Option, none, some}
use Rattle.theory.specs.Lists.{iv, keep, no_one, all_below, put, put2}
use Rattle.theory.specs.Events.{Kind, send, recv, other, size, at, kind, recvs, sent, rcvd}
use Rattle.theory.specs.Line.{Run, orphan, kept, orphan_phase}

-- a choice: a process does its next listed event, or the oldest kept message from p to q is handed over
pub data Choice : Type 0 where
  process : ℕ → Choice
  hand : ℕ → ℕ → Choice

-- A state: of each process the listed events still to do, by number; of each channel the numbers of the kept messages
-- not yet handed over, of the messages in the channel, oldest first, and of those that its receiver received.
pub record State : Type 0 where
  pub todo : ℕ → List ℕ
  pub left : ℕ → ℕ → List ℕ
  pub chan : ℕ → ℕ → List ℕ
  pub got : ℕ → ℕ → List ℕ

module _ (R : Run) where
  -- the events of process z after event x, "to the end of the trace"
  unfoldable pub listed : ℕ → ℕ → List ℕ
  listed z x = keep (λ e. eqb z (at R.trace e)) (iv x (size R.trace - x))

  -- the kept messages of a channel, oldest first
  unfoldable pub kept_on : ℕ → ℕ → List ℕ
  kept_on p q = keep (kept R p q) (iv 0 (sent R.trace p q (size R.trace)))

  -- the messages that the receives on a channel up to event x take, as in the trace
  unfoldable pub taken_by : ℕ → ℕ → ℕ → List ℕ
  taken_by p q x = map (rcvd R.trace p q) (keep (recvs R.trace p q) (iv 0 x))

  -- "The first choice finds the zones at their restarts, all channels empty, no kept message handed over and no orphan
  -- sent again"
  abbrev pub start : State
  start = record { todo = λ z. listed z (R.restart z); left = kept_on; chan = λ p q. []; got = λ p q. taken_by p q (R.restart q) }

  -- event e of process z sends an orphan of phase r or less again
  unfoldable pub resends : ℕ → ℕ → ℕ → Kind → Bool
  resends r z e (send q) = orphan R z q (sent R.trace z q e) && leb (orphan_phase R z q (sent R.trace z q e)) r
  resends r z e (recv p) = false
  resends r z e other = false

  -- "Phase r is ready when every orphan of phase r or less has been sent again": no process has yet to do such a send
  unfoldable pub ready : State → ℕ → Bool
  ready s r = all_below R.trace.procs (λ z. no_one (λ e. resends r z e (kind R.trace e)) (s.todo z))

  -- "A zone that goes back may run when its phase at restart, less 1, is ready. A zone that stays may run when its
  -- phase at the cut is ready." (The cut takes the place of its restart.)
  unfoldable pub gate : ℕ → ℕ
  gate z = cond (R.stays z) (R.phase z (R.restart z)) (R.phase z (R.restart z) - 1)

  -- "Any other event only moves the zone on."
  abbrev pub moved : State → ℕ → List ℕ → State
  moved s z es = record { todo = put s.todo z es; left = s.left; chan = s.chan; got = s.got }

  -- "a sent message whose number is at most how many the receiver had received on that channel before its restart is
  -- dropped instead": what the send e of z leaves in the channel to q
  abbrev pub joins : State → ℕ → ℕ → ℕ → List ℕ
  joins s z q e =
      cond (leb (sent R.trace z q e) (rcvd R.trace z q (R.restart q))) (s.chan z q) (s.chan z q ++ sent R.trace z q e ∷ [])

  abbrev pub sending : State → ℕ → ℕ → ℕ → List ℕ → State
  sending s z q e es =
      record { todo = put s.todo z es; left = s.left; chan = put2 s.chan z q (joins s z q e); got = s.got }

  abbrev pub taking : State → ℕ → ℕ → List ℕ → ℕ → List ℕ → State
  taking s z p es m ms =
      record { todo = put s.todo z es; left = s.left; chan = put2 s.chan p z ms; got = put2 s.got p z (s.got p z ++ m ∷ []) }

  abbrev pub handing : State → ℕ → ℕ → ℕ → List ℕ → State
  handing s p q m ms =
      record { todo = s.todo; left = put2 s.left p q ms; chan = put2 s.chan p q (s.chan p q ++ m ∷ []); got = s.got }

  -- "A send on P to Q waits until every kept message of that channel is handed over."
  unfoldable pub send_step : State → ℕ → ℕ → ℕ → List ℕ → List ℕ → Option State
  send_step s z q e es [] = some (sending s z q e es)
  send_step s z q e es (m ∷ ms) = none

  -- "A receive needs a message in the channel and takes the oldest."
  unfoldable pub recv_step : State → ℕ → ℕ → List ℕ → List ℕ → Option State
  recv_step s z p es [] = none
  recv_step s z p es (m ∷ ms) = some (taking s z p es m ms)

  unfoldable pub event_step : State → ℕ → ℕ → List ℕ → Kind → Option State
  unfolding send_step recv_step
  event_step s z e es (send q) = send_step s z q e es (s.left z q)
  event_step s z e es (recv p) = recv_step s z p es (s.chan p z)
  event_step s z e es other = some (moved s z es)

  -- "that zone does its next listed event", when its gate is ready
  unfoldable pub process_step : State → ℕ → List ℕ → Bool → Option State
  unfolding event_step
  process_step s z [] b = none
  process_step s z (e ∷ es) true = event_step s z e es (kind R.trace e)
  process_step s z (e ∷ es) false = none

  -- "the oldest kept message from P to Q not yet handed over goes into the channel", "when its own phase is ready"
  unfoldable pub hand_step : State → ℕ → ℕ → List ℕ → Option State
  hand_step s p q [] = none
  hand_step s p q (m ∷ ms) = cond (ready s (R.carries p q m)) (some (handing s p q m ms)) none

  -- one choice: the state that it leaves, or none where it is not allowed
  unfoldable pub step : State → Choice → Option State
  unfolding process_step hand_step
  step s (process z) = process_step s z (s.todo z) (ready s (gate z))
  step s (hand p q) = hand_step s p q (s.left p q)
