-- What the replay does with words: definitions only. `full` is the full table (crate columns), `links`, `gates` and
-- the run area are described here. Links of event e: word 4 e the next event of its process; 4 e + 1 the next send
-- whose message goes through its channel; 4 e + 2 the next orphan's send of its process (4 e + 3 is for the lowest
-- order only: crate links). Gates of process z: word z its gate, word 64 + z the event that it restarts after. Every
-- "next" is an event, 0 where there is none.
use Rattle.std.specs.Prelude.{Bool, true, false, ◌||◌, not, cond, List, ℕ, zero, suc, ◌+◌, ◌-◌, ◌*◌, ◌/◌, ◌≤◌, ◌<◌, get_or, set, ltb, eqb}
use Rattle.theory.specs.Lists.{all_below}
use Rattle.columns.specs.Inner.Full.{at_w, peer_w, kind_w, phase_w, value_w, number_w}
use Rattle.machine.specs.Taken.{taken_base}

-- of each process its next event, and the send of its next orphan that is not sent again
abbrev pub current_base : ℕ
current_base = 6147

abbrev pub orphan_base : ℕ
orphan_base = 6211

-- of each channel the send of its next message to take, and of its next message to put in
abbrev pub take_base : ℕ
take_base = 6275

abbrev pub put_base : ℕ
put_base = 10371

-- the least phase of an orphan that is not sent again; no_phase where there is none
abbrev pub low_place : ℕ
low_place = 14467

abbrev pub no_phase : ℕ
no_phase = 4294967295

-- of the area: the process's next event, its next unsent orphan; the channel's next message to take, to put in; the
-- least phase of an unsent orphan
abbrev pub cur_w : List ℕ → ℕ → ℕ
cur_w a z = get_or a (current_base + z) 0

abbrev pub orp_w : List ℕ → ℕ → ℕ
orp_w a z = get_or a (orphan_base + z) 0

abbrev pub take_w : List ℕ → ℕ → ℕ
take_w a c = get_or a (take_base + c) 0

abbrev pub put_w : List ℕ → ℕ → ℕ
put_w a c = get_or a (put_base + c) 0

abbrev pub low_w : List ℕ → ℕ
low_w a = get_or a low_place 0

-- no kept message is left on the channel, whose sender restarts after event x
abbrev pub send_ok : ℕ → ℕ → Bool
send_ok x m = eqb m 0 || ltb x m

unfoldable pub event_ok : List ℕ → List ℕ → List ℕ → ℕ → ℕ → Bool
event_ok t g a z e =
    cond (eqb (kind_w t e) 1) (send_ok (get_or g (64 + z) 0) (put_w a (64 * z + peer_w t e)))
    (cond (eqb (kind_w t e) 2) (not (eqb (take_w a (64 * peer_w t e + z)) (put_w a (64 * peer_w t e + z)))) true)

unfoldable pub process_ok : List ℕ → List ℕ → List ℕ → ℕ → Bool
process_ok t g a z = cond (eqb (cur_w a z) 0) false (cond (ltb (get_or g z 0) (low_w a)) (event_ok t g a z (cur_w a z)) false)

unfoldable pub hand_ok : List ℕ → List ℕ → List ℕ → ℕ → ℕ → Bool
hand_ok t g a p c = cond (send_ok (get_or g (64 + p) 0) (put_w a c)) false (ltb (phase_w t (put_w a c)) (low_w a))

unfoldable pub allowed_w : List ℕ → List ℕ → List ℕ → ℕ → Bool
allowed_w t g a c = cond (ltb c 64) (process_ok t g a c) (cond (ltb c 4160) (hand_ok t g a ((c - 64) / 64) (c - 64)) false)

-- the least phase of an unsent orphan of a process below z
abbrev pub lesser : ℕ → ℕ → ℕ
lesser x y = cond (ltb x y) x y

abbrev pub least_with : List ℕ → ℕ → ℕ → ℕ
least_with t o low = cond (eqb o 0) low (lesser (phase_w t o) low)

unfoldable pub low_of : List ℕ → List ℕ → ℕ → ℕ
low_of t a zero = no_phase
low_of t a (suc z) = least_with t (orp_w a z) (low_of t a z)

unfoldable pub moved_w : List ℕ → List ℕ → ℕ → ℕ → List ℕ
moved_w l a z e = set a (current_base + z) (get_or l (4 * e) 0)

unfoldable pub drop_w : List ℕ → List ℕ → List ℕ → ℕ → ℕ → List ℕ
drop_w t l a z e = set (set a (orphan_base + z) (get_or l (4 * e + 2) 0)) low_place (low_of t (set a (orphan_base + z) (get_or l (4 * e + 2) 0)) (get_or t 0 0))

unfoldable pub put_in_w : List ℕ → List ℕ → ℕ → List ℕ
put_in_w l a c = set a (put_base + c) (get_or l (4 * put_w a c + 1) 0)

-- the receive e takes the message that event m sends: its number and both halves of its value go on record
unfoldable pub noted_w : List ℕ → List ℕ → ℕ → ℕ → List ℕ
noted_w t a e m = set (set (set a e (number_w t m)) (taken_base 0 + e) (value_w 0 t m)) (taken_base 1 + e) (value_w 1 t m)

unfoldable pub take_out_w : List ℕ → List ℕ → List ℕ → ℕ → ℕ → List ℕ
take_out_w t l a c e = noted_w t (set a (take_base + c) (get_or l (4 * take_w a c + 1) 0)) e (take_w a c)

unfoldable pub event_step_w : List ℕ → List ℕ → List ℕ → ℕ → ℕ → List ℕ
event_step_w t l a z e =
    cond (eqb (kind_w t e) 1) (cond (eqb (orp_w a z) e) (drop_w t l a z e) (put_in_w l a (64 * z + peer_w t e)))
    (cond (eqb (kind_w t e) 2) (take_out_w t l a (64 * peer_w t e + z) e) a)

unfoldable pub process_w : List ℕ → List ℕ → List ℕ → ℕ → List ℕ
process_w t l a z = moved_w l (event_step_w t l a z (cur_w a z)) z (cur_w a z)

unfoldable pub apply_w : List ℕ → List ℕ → List ℕ → ℕ → List ℕ
apply_w t l a c = cond (ltb c 64) (process_w t l a c) (put_in_w l a (c - 64))

-- whom it may let run that process z does event e, besides z itself and whom a new least phase lets run: the receiver
-- of the message that it puts in; z where it puts in none
unfoldable pub wakes_at : List ℕ → List ℕ → ℕ → ℕ → ℕ
wakes_at t a z e = cond (eqb (kind_w t e) 1) (cond (eqb (orp_w a z) e) z (peer_w t e)) z

unfoldable pub wakes : List ℕ → List ℕ → ℕ → ℕ
wakes t a z = wakes_at t a z (cur_w a z)

-- every pointer is an event or 0
unfoldable pub Bounded : List ℕ → Type 0
Bounded a = (k : ℕ) → current_base ≤ k → k < low_place → get_or a k 0 < 2049

unfoldable pub Small : List ℕ → Type 0
Small l = (k : ℕ) → get_or l k 0 < 2049

-- may the message that event e sends be handed over: it is the next one to put into its channel, and that one may
unfoldable pub hands_at : List ℕ → List ℕ → List ℕ → ℕ → Bool
hands_at t g a e =
    cond (eqb (kind_w t e) 1) (cond (eqb (put_w a (64 * at_w t e + peer_w t e)) e) (hand_ok t g a (at_w t e) (64 * at_w t e + peer_w t e)) false) false

-- is no process before the n-th allowed, no message of the first n events, no choice
unfoldable pub none_runs : List ℕ → List ℕ → List ℕ → ℕ → Bool
none_runs t g a n = all_below n (λ z. not (process_ok t g a z))

unfoldable pub none_hands : List ℕ → List ℕ → List ℕ → ℕ → Bool
none_hands t g a n = all_below n (λ e. not (hands_at t g a (suc e)))

unfoldable pub none_allowed : List ℕ → List ℕ → List ℕ → Bool
none_allowed t g a = all_below 4160 (λ c. not (allowed_w t g a c))

-- the phase of the oldest kept message of channel c, of sender p; above all phases where none is left
unfoldable pub kept_phase : List ℕ → List ℕ → List ℕ → ℕ → ℕ → ℕ
kept_phase t g a p c = cond (send_ok (get_or g (64 + p) 0) (put_w a c)) no_phase (phase_w t (put_w a c))
