-- How the full table is filled, one event after another: the words that each kind of event stores, and what the table
-- and the working words hold after some events. No contract of a function that users call cites these.
use Rattle.std.specs.Prelude.{ℕ, suc, ◌+◌, ◌-◌, ◌*◌, ◌<◌, ◌≤◌, ◌≡◌, Bool, true, ◌&&◌, not, cond, List, [], ◌++◌, ltb, leb, eqb, length, get_or, set}
use Rattle.trace.specs.declared.Event.{Event}
use Rattle.trace.specs.declared.Event.TheVariants.{Send, Recv, Save, Done}
use Rattle.trace.specs.Trace.{Trace}
use Rattle.trace.specs.Fit.{value_fits, all_fit, well_formed}
use Rattle.theory.specs.Events.{at, sends, recvs, sent, rcvd, send_of, recv_of}
use Rattle.theory.specs.Epochs.{joined, epoch_at, phase_at, logged_by, rule_of, finished_at}
use Rattle.columns.specs.Inner.Columns.{number_base, epoch_base, phase_base, match_base, logged_base, full_words}

-- Working words: process z's epoch at z, its phase at phases_base + z and its latest finished epoch at finished_base +
-- z; of channel c = 64 p + q the oldest send in transit and the latest send, as events, 0 where there is none; of a
-- send the next send on its channel.
abbrev pub phases_base : ℕ
phases_base = 64

abbrev pub finished_base : ℕ
finished_base = 128

abbrev pub oldest_base : ℕ
oldest_base = 192

abbrev pub latest_base : ℕ
latest_base = 4288

abbrev pub next_base : ℕ
next_base = 8384

abbrev pub work_words : ℕ
work_words = 10433

-- the columns of an event; those of one that has a number
abbrev pub placed : List ℕ → ℕ → ℕ → ℕ → ℕ → List ℕ
placed full e epoch phase mate = set (set (set full (epoch_base + e) epoch) (phase_base + e) phase) (match_base + e) mate

abbrev pub stored : List ℕ → ℕ → ℕ → ℕ → ℕ → ℕ → List ℕ
stored full e number epoch phase mate = placed (set full (number_base + e) number) e epoch phase mate

abbrev pub or_new : ℕ → ℕ → ℕ
or_new old e = cond (eqb old 0) e old

-- event e, a send of a to b: the next number on the channel, and the channel's latest send
abbrev pub send_full : List ℕ → List ℕ → ℕ → ℕ → ℕ → List ℕ
send_full full work e a b =
    stored full e (get_or full (number_base + get_or work (latest_base + (64 * a + b)) 0) 0 + 1) (get_or work a 0) (get_or work (phases_base + a) 0) 0

abbrev pub send_work : List ℕ → ℕ → ℕ → ℕ → List ℕ
send_work work e a b =
    set
    (set (set work (next_base + get_or work (latest_base + (64 * a + b)) 0) e) (latest_base + (64 * a + b)) e)
    (oldest_base + (64 * a + b))
    (or_new (get_or work (oldest_base + (64 * a + b)) 0) e)

-- event e, a receive of a from b: the channel's oldest send d is matched with it; whether its message is logged
abbrev pub recv_logged : List ℕ → List ℕ → ℕ → ℕ → Bool
recv_logged full work d a = ltb (get_or full (epoch_base + d) 0) (get_or work a 0)

abbrev pub recv_phase : List ℕ → List ℕ → ℕ → ℕ → ℕ
recv_phase full work d a = joined (recv_logged full work d a) (get_or work (phases_base + a) 0) (get_or full (phase_base + d) 0)

abbrev pub recv_full : List ℕ → List ℕ → ℕ → ℕ → ℕ → List ℕ
recv_full full work e d a =
    set
    (set (placed full e (get_or work a 0) (recv_phase full work d a) d) (match_base + d) e)
    (logged_base + e)
    (cond (recv_logged full work d a) 1 0)

abbrev pub recv_work : List ℕ → List ℕ → ℕ → ℕ → ℕ → List ℕ
recv_work full work d a b = set (set work (phases_base + a) (recv_phase full work d a)) (oldest_base + (64 * b + a)) (get_or work (next_base + d) 0)

-- event e, a local one of a: epoch and phase rise by u, 1 at a checkpoint, 0 at the end of one, which finishes an epoch
abbrev pub local_full : List ℕ → List ℕ → ℕ → ℕ → ℕ → List ℕ
local_full full work e a u = stored full e 0 (get_or work a 0 + u) (get_or work (phases_base + a) 0 + u) 0

abbrev pub local_work : List ℕ → ℕ → ℕ → List ℕ
local_work work a u =
    set
    (set (set work a (get_or work a 0 + u)) (phases_base + a) (get_or work (phases_base + a) 0 + u))
    (finished_base + a)
    (get_or work (finished_base + a) 0 + (1 - u))

abbrev pub oldest_of : List ℕ → ℕ → ℕ → ℕ
oldest_of work a b = get_or work (oldest_base + (64 * b + a)) 0

abbrev pub note_full : List ℕ → List ℕ → ℕ → Event → List ℕ
note_full full work e (Send a b v) = send_full full work e a b
note_full full work e (Recv a b) = recv_full full work e (oldest_of work a b) a
note_full full work e (Save a) = local_full full work e a 1
note_full full work e (Done a) = local_full full work e a 0

abbrev pub note_work : List ℕ → List ℕ → ℕ → Event → List ℕ
note_work full work e (Send a b v) = send_work work e a b
note_work full work e (Recv a b) = recv_work full work (oldest_of work a b) a b
note_work full work e (Save a) = local_work work a 1
note_work full work e (Done a) = local_work work a 0

-- Is an event fit after those noted, by the working words (`event_fault`): its processes are among the n, a message is
-- between two of them, and one to be taken is in transit, which then is the oldest; a checkpoint is at most the 30th;
-- what a done finishes is begun.
abbrev pub pair_fits : ℕ → ℕ → ℕ → Bool
pair_fits n a b = ltb a n && (ltb b n && not (eqb a b))

abbrev pub fit_in : ℕ → List ℕ → Event → Bool
fit_in n work (Send a b v) = pair_fits n a b
fit_in n work (Recv a b) = pair_fits n a b && not (eqb (oldest_of work a b) 0)
fit_in n work (Save a) = ltb a n && ltb (get_or work a 0) 31
fit_in n work (Done a) = ltb a n && ltb (get_or work (finished_base + a) 0) (get_or work a 0)

-- the columns of the full table after x events
pub record Filled (t : Trace) (x : ℕ) (full : List ℕ) : Type 0 where
  pub whole : length full ≡ full_words
  -- there is no event 0; its word is 0, and a channel's first message gets one more
  pub number_none : get_or full number_base 0 ≡ 0
  pub number_send : (p q e : ℕ) → sends t p q e ≡ true → 0 < e → e ≤ x → get_or full (number_base + e) 0 ≡ sent t p q e
  pub epoch : (e : ℕ) → 0 < e → e ≤ x → get_or full (epoch_base + e) 0 ≡ epoch_at t (rule_of t) (at t e) e
  pub phase : (e : ℕ) → 0 < e → e ≤ x → get_or full (phase_base + e) 0 ≡ phase_at t (rule_of t) (at t e) e
  -- a send is matched once its message is received
  pub match_send : (p q e : ℕ) → sends t p q e ≡ true → 0 < e → e ≤ x
      → get_or full (match_base + e) 0 ≡ cond (leb (sent t p q e) (rcvd t p q x)) (recv_of t p q (sent t p q e)) 0
  pub match_recv : (p q e : ℕ) → recvs t p q e ≡ true → 0 < e → e ≤ x → get_or full (match_base + e) 0 ≡ send_of t p q (rcvd t p q e)
  pub flags : (p q e : ℕ) → recvs t p q e ≡ true → 0 < e → e ≤ x → get_or full (logged_base + e) 0 ≡ cond (logged_by t (rule_of t) p q (rcvd t p q e)) 1 0

-- the working words after x events
pub record Working (t : Trace) (x : ℕ) (work : List ℕ) : Type 0 where
  pub whole : length work ≡ work_words
  pub epochs : (z : ℕ) → z < 64 → get_or work z 0 ≡ epoch_at t (rule_of t) z x
  pub phases : (z : ℕ) → z < 64 → get_or work (phases_base + z) 0 ≡ phase_at t (rule_of t) z x
  pub finished : (z : ℕ) → z < 64 → get_or work (finished_base + z) 0 ≡ finished_at t z x
  pub oldest : (p q : ℕ) → p < 64 → q < 64
      → get_or work (oldest_base + (64 * p + q)) 0 ≡ cond (ltb (rcvd t p q x) (sent t p q x)) (send_of t p q (suc (rcvd t p q x))) 0
  pub latest : (p q : ℕ) → p < 64 → q < 64 → get_or work (latest_base + (64 * p + q)) 0 ≡ send_of t p q (sent t p q x)
  pub next : (p q d : ℕ) → sends t p q d ≡ true → 0 < d → d ≤ x
      → get_or work (next_base + d) 0 ≡ cond (ltb (sent t p q d) (sent t p q x)) (send_of t p q (suc (sent t p q d))) 0
  -- nothing is linked to an event that is to come
  pub fresh : (d : ℕ) → x < d → get_or work (next_base + d) 0 ≡ 0

-- a well-formed trace that begins with some events
pub record Begins (es : List Event) (t : Trace) : Type 0 where
  pub formed : well_formed t ≡ true
  pub rest : List Event
  pub events : t.events ≡ es ++ rest

-- the tables after the events es of a run of n processes, all of them fit
pub record Noted (n : ℕ) (es : List Event) (full work : List ℕ) : Type 0 where
  pub least : 2 ≤ n
  pub most : n ≤ 64
  pub few : length es ≤ 2048
  pub fit : all_fit n [] es ≡ true
  pub filled : (t : Trace) → Begins es t → Filled t (length es) full
  pub working : (t : Trace) → Begins es t → Working t (length es) work

-- the words that an event reads are in their range, so that no index is past its end, no sum wraps and 16 bits are
-- enough
pub record SendNotable (full work : List ℕ) (a b : ℕ) : Type 0 where
  pub at_lt : a < 64
  pub to_lt : b < 64
  pub latest_most : get_or work (latest_base + (64 * a + b)) 0 ≤ 2048
  pub number_few : get_or full (number_base + get_or work (latest_base + (64 * a + b)) 0) 0 < 4294967295

pub record RecvNotable (full work : List ℕ) (a b : ℕ) : Type 0 where
  pub at_lt : a < 64
  pub from_lt : b < 64
  pub oldest_most : oldest_of work a b ≤ 2048
  pub phase_few : get_or full (phase_base + oldest_of work a b) 0 < 65535

pub record LocalNotable (work : List ℕ) (a : ℕ) : Type 0 where
  pub at_lt : a < 64
  pub epoch_few : get_or work a 0 < 65535
  pub phase_few : get_or work (phases_base + a) 0 < 65535
  pub finished_few : get_or work (finished_base + a) 0 < 65535

abbrev pub Notable : List ℕ → List ℕ → Event → Type 0
Notable full work (Send a b v) = SendNotable full work a b
Notable full work (Recv a b) = RecvNotable full work a b
Notable full work (Save a) = LocalNotable work a
Notable full work (Done a) = LocalNotable work a

-- both tables have their sizes, and the event its place in them
pub record Storable (full work : List ℕ) (e : ℕ) : Type 0 where
  pub full_long : length full ≡ full_words
  pub work_long : length work ≡ work_words
  pub event_most : e ≤ 2048

-- the tables await event e, of n processes: whichever comes, if it is fit, it can be noted
pub record Awaits (n : ℕ) (full work : List ℕ) (e : ℕ) : Type 0 where
  pub procs_most : n ≤ 64
  pub storable : Storable full work e
  pub notable : (v : Event) → fit_in n work v ≡ true → value_fits v ≡ true → Notable full work v
