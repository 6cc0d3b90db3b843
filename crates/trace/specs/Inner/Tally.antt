-- Counters that events are judged by, one after another.
use Rattle.std.specs.Prelude.{ℕ, ◌+◌, ◌-◌, ◌*◌, ◌<◌, ◌≤◌, ◌≡◌, List, length, get_or, set, leb, eqb, cond, Result, Ok, Err}
use Rattle.trace.specs.declared.Event.{Event}
use Rattle.trace.specs.declared.Event.TheVariants.{Send, Recv, Save, Done}
use Rattle.trace.specs.declared.Unfit.{Unfit}
use Rattle.trace.specs.declared.Unfit.TheVariants.{NoProcess, Itself, NothingInTransit, TooManySaves, NothingToFinish}
use Rattle.trace.specs.Trace.{sends_in, recvs_in, saves_in, dones_in}
use Rattle.trace.specs.Fit.{event_fault}

-- how many counters there are
abbrev pub count_words : ℕ
count_words = 4224

-- The counters after some events: word 64 p + q has how many messages are in transit from p to q, word 4096 + z how
-- many checkpoints z has made, word 4160 + z how many of them are finished.
pub record Tally (counts : List ℕ) (es : List Event) : Type 0 where
  pub size : length counts ≡ count_words
  pub transit : (p q : ℕ) → p < 64 → q < 64 → get_or counts (64 * p + q) 0 + recvs_in p q es ≡ sends_in p q es
  pub saved : (z : ℕ) → z < 64 → get_or counts (4096 + z) 0 ≡ saves_in z es
  pub finished : (z : ℕ) → z < 64 → get_or counts (4160 + z) 0 ≡ dones_in z es

-- the number of what is wrong with an event (MANUAL 2.4), and 0 where nothing is
abbrev pub number_of : Unfit → ℕ
number_of NoProcess = 3
number_of Itself = 4
number_of NothingInTransit = 5
number_of TooManySaves = 6
number_of NothingToFinish = 15

abbrev pub number_or_zero : Result Unit Unfit → ℕ
number_or_zero (Ok _) = 0
number_or_zero (Err unfit) = number_of unfit

-- what is wrong with an event, by the counters: 3, 4, 5, 6 or 15, or 0
unfoldable pub fault_by : ℕ → List ℕ → Event → ℕ
fault_by n counts (Send at to val) = cond (leb n at) 3 (cond (leb n to) 3 (cond (eqb at to) 4 0))
fault_by n counts (Recv at from) = cond (leb n at) 3 (cond (leb n from) 3 (cond (eqb at from) 4 (cond (eqb (get_or counts (64 * from + at) 0) 0) 5 0)))
fault_by n counts (Save at) = cond (leb n at) 3 (cond (leb 30 (get_or counts (4096 + at) 0)) 6 0)
fault_by n counts (Done at) = cond (leb n at) 3 (cond (leb (get_or counts (4096 + at) 0) (get_or counts (4160 + at) 0)) 15 0)

-- an event that is fit after the events that were counted
pub record Next (counts : List ℕ) (e : Event) : Type 0 where
  pub procs : ℕ
  pub events : List Event
  pub procs_most : procs ≤ 64
  pub events_few : length events < 2048
  pub tally : Tally counts events
  pub fit : event_fault procs events e ≡ 0

-- the counters with one event more
abbrev pub tallied : List ℕ → Event → List ℕ
tallied counts (Send at to val) = set counts (64 * at + to) (get_or counts (64 * at + to) 0 + 1)
tallied counts (Recv at from) = set counts (64 * from + at) (get_or counts (64 * from + at) 0 - 1)
tallied counts (Save at) = set counts (4096 + at) (get_or counts (4096 + at) 0 + 1)
tallied counts (Done at) = set counts (4160 + at) (get_or counts (4160 + at) 0 + 1)
