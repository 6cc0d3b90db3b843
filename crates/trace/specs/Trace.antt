-- Events and traces (MANUAL 2.3). A process is the requirements' zone, a checkpoint their save.
use Rattle.std.specs.Prelude.{ℕ, ◌+◌, List, [], ◌∷◌, ◌++◌, Bool, true, false, ◌&&◌, eqb}
use Rattle.trace.specs.declared.Event.{Event}
use Rattle.trace.specs.declared.Event.TheVariants.{Send, Recv, Save, Done}

-- a recorded run: how many processes it has, and its events in text order; event number 1 is the first of the list
pub record Trace : Type 0 where
  pub procs : ℕ
  pub events : List Event

-- A trace is built here and, from a table area's words, in table's `held`: nowhere else are its fields listed.
-- A run of n processes before its first event.
abbrev pub started : ℕ → Trace
started n = record { procs = n; events = [] }

-- the same run with other events; with one event more
abbrev pub with_events : Trace → List Event → Trace
with_events t es = record { procs = t.procs; events = es }

abbrev pub extended : Trace → Event → Trace
extended t e = with_events t (t.events ++ e ∷ [])

-- an event's value: that of the message sent, or 0
abbrev pub value_of : Event → ℕ
value_of (Send at to val) = val
value_of (Recv at from) = 0
value_of (Save at) = 0
value_of (Done at) = 0

-- a send, a receive on the channel from p to q; a checkpoint of z; a line that finishes one of z (the requirements: "A
-- `done` finishes the oldest unfinished save of A")
abbrev pub is_send : ℕ → ℕ → Event → Bool
is_send p q (Send at to val) = eqb p at && eqb q to
is_send p q (Recv at from) = false
is_send p q (Save at) = false
is_send p q (Done at) = false

abbrev pub is_recv : ℕ → ℕ → Event → Bool
is_recv p q (Send at to val) = false
is_recv p q (Recv at from) = eqb p from && eqb q at
is_recv p q (Save at) = false
is_recv p q (Done at) = false

abbrev pub is_save : ℕ → Event → Bool
is_save z (Send at to val) = false
is_save z (Recv at from) = false
is_save z (Save at) = eqb z at
is_save z (Done at) = false

abbrev pub is_done : ℕ → Event → Bool
is_done z (Send at to val) = false
is_done z (Recv at from) = false
is_done z (Save at) = false
is_done z (Done at) = eqb z at

abbrev pub one_if : Bool → ℕ
one_if true = 1
one_if false = 0

-- how many events of a list pass a test
unfoldable pub count : (Event → Bool) → List Event → ℕ
count f [] = 0
count f (e ∷ es) = one_if (f e) + count f es

-- how many sends, how many receives on the channel from p to q, how many checkpoints of z and how many ends of them a
-- list of events has
abbrev pub sends_in : ℕ → ℕ → List Event → ℕ
sends_in p q = count (is_send p q)

abbrev pub recvs_in : ℕ → ℕ → List Event → ℕ
recvs_in p q = count (is_recv p q)

abbrev pub saves_in : ℕ → List Event → ℕ
saves_in z = count (is_save z)

abbrev pub dones_in : ℕ → List Event → ℕ
dones_in z = count (is_done z)
