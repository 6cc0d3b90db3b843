-- Events, channels and message numbers of a trace (MANUAL 3.1, 3.2). Quotations here and in the other files are from
-- the requirements: their zone is our process, their save our checkpoint.
use Rattle.std.specs.Prelude.{Bool, ℕ, zero, suc, length, get_or}
use Rattle.trace.specs.declared.Event.{Event}
use Rattle.trace.specs.declared.Event.TheVariants.{Send, Recv, Save, Done}
use Rattle.trace.specs.Trace.{Trace, value_of, is_send, is_recv, is_save, is_done}
use Rattle.theory.specs.Lists.{cnt, place}

-- what a replay sees of an event: a send to q, a receive from p, or any other
pub data Kind : Type 0 where
  send : ℕ → Kind
  recv : ℕ → Kind
  other : Kind

abbrev pub kind_of : Event → Kind
kind_of (Send at to val) = send to
kind_of (Recv at from) = recv from
kind_of (Save at) = other
kind_of (Done at) = other

abbrev pub process_of : Event → ℕ
process_of (Send at to val) = at
process_of (Recv at from) = at
process_of (Save at) = at
process_of (Done at) = at

module _ (t : Trace) where
  -- "events, numbered from 1 in text order": how many there are, and event e. Under any other number stands a
  -- checkpoint of process N, which is no process of the trace.
  abbrev pub size : ℕ
  size = length t.events

  unfoldable pub event_at : ℕ → Event
  event_at zero = Save t.procs
  event_at (suc e) = get_or t.events e (Save t.procs)

  -- the process and the kind of event e
  unfoldable pub at : ℕ → ℕ
  at e = process_of (event_at e)

  unfoldable pub kind : ℕ → Kind
  kind e = kind_of (event_at e)

  -- is event e a send, a receive on the channel from p to q; is it a checkpoint of z; does it finish one of z
  unfoldable pub sends : ℕ → ℕ → ℕ → Bool
  sends p q e = is_send p q (event_at e)

  unfoldable pub recvs : ℕ → ℕ → ℕ → Bool
  recvs p q e = is_recv p q (event_at e)

  unfoldable pub checkpoints : ℕ → ℕ → Bool
  checkpoints z e = is_save z (event_at e)

  unfoldable pub finishes : ℕ → ℕ → Bool
  finishes z e = is_done z (event_at e)

  -- "A message is named by sender, receiver and its number on that channel, from 1." How many are sent, how many
  -- received on the channel up to event x: a send e has number `sent p q e`. "A takes the oldest message in transit": a
  -- receive e takes number `rcvd p q e`.
  unfoldable pub sent : ℕ → ℕ → ℕ → ℕ
  sent p q x = cnt (sends p q) x

  unfoldable pub rcvd : ℕ → ℕ → ℕ → ℕ
  rcvd p q x = cnt (recvs p q) x

  -- the event that sends message k, the event that receives it, and its value; 0 where there is none
  unfoldable pub send_of : ℕ → ℕ → ℕ → ℕ
  send_of p q k = place (sends p q) k size

  unfoldable pub recv_of : ℕ → ℕ → ℕ → ℕ
  recv_of p q k = place (recvs p q) k size

  unfoldable pub value : ℕ → ℕ → ℕ → ℕ
  value p q k = value_of (event_at (send_of p q k))
