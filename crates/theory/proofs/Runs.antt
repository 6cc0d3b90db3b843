-- Runs that tell the definitions from plausible mistakes, by computation from the definitions alone.
use mathlib.Core.Path.{◌≡◌, refl}
use mathlib.Core.Bool.{Bool, true, false, ◌&&◌, not}
use mathlib.Core.List.{List, [], ◌∷◌, map}
use mathlib.Core.Option.{bind}
use Prim.Native.Nat.{ℕ}
use lib.Dec.{eqb}
use Rattle.trace.specs.declared.Event.{Event}
use Rattle.trace.specs.declared.Event.TheVariants.{Send, Recv, Save, Done}
use Rattle.trace.specs.Trace.{count}
use Rattle.trace.specs.Fit.{well_formed, all_fit, event_fault}
use Rattle.theory.specs.Lists.{iv, keep, cnt, place, last_of, no_one, all_below, sum, first}
use Rattle.theory.specs.Events.{event_at, at, kind, sends, recvs, checkpoints, finishes, sent, rcvd, send_of, recv_of, value}
use Rattle.theory.specs.Epochs.{note, notes, phase_at, logged_by, rule_of}
use Rattle.theory.specs.Line.{Run, sent_before, sent_after, received, received_before, undone, lost, orphan, kept, orphan_phase, restart_in, highest, lowered, lowering, greatest_line, unfinished_at, run_at, engine_line}
use Rattle.theory.specs.Replay.{listed, kept_on, taken_by, resends, ready, gate, send_step, recv_step, event_step, process_step, hand_step, step}
use Rattle.theory.specs.Record.{delivered, faultless}
use Rattle.theory.specs.Order.{choice_of, choose, carry, run, steps, most_steps, is_none, lowest, lowest_from, complete}
use Rattle.theory.specs.Answers.{line_of, Listed, gather, messages, orphans, exact_steps}
use Rattle.theory.specs.Inner.Tests.{two, same_pairs, same_record, place_of, leaves}

-- all that a row computes with
unfoldable pub opens : ℕ
unfolding bind iv keep cnt place last_of no_one all_below sum first event_at at kind sends recvs checkpoints finishes sent rcvd send_of recv_of value note notes logged_by sent_before sent_after received received_before undone lost orphan kept orphan_phase restart_in highest lowered lowering greatest_line listed kept_on taken_by resends ready gate send_step recv_step event_step process_step hand_step step delivered faultless choice_of choose carry run lowest lowest_from complete gather messages exact_steps same_pairs same_record count well_formed all_fit event_fault
opens = 0

-- do all rows of a table hold
unfoldable pub every : List Bool → Bool
every [] = true
every (b ∷ bs) = b && every bs

-- a trace of two processes, recovered under the requirements' rule
abbrev at_cut : List Event → ℕ → List ℕ → Run
at_cut es cut l = run_at (two es) cut (line_of l)

abbrev line_of_events : List Event → ℕ → ℕ → ℕ → ℕ
line_of_events es cut set = engine_line (two es) cut set

-- the engine's line has these two numbers
abbrev line_is : List Event → ℕ → ℕ → ℕ → ℕ → Bool
line_is es cut set a b = eqb (line_of_events es cut set 0) a && eqb (line_of_events es cut set 1) b

-- the order is refused at a place; it is complete and leaves the record of the run without failure; it is complete and
-- does every event, but leaves another record
abbrev pub stops : Run → List ℕ → ℕ → Bool
stops R order i = eqb (place_of (run R order)) i

abbrev pub completes : Run → List ℕ → Bool
completes R order = leaves (λ s. is_none (lowest R s) && same_record R s) (run R order)

abbrev pub differs : Run → List ℕ → Bool
differs R order =
    leaves (λ s. is_none (lowest R s) && (all_below R.trace.procs (λ z. no_one (λ e. true) (s.todo z)) && not (same_record R s))) (run R order)

-- from a line of a trace one order is refused at its first choice, and another is complete as above
abbrev waits : List Event → ℕ → List ℕ → List ℕ → List ℕ → Bool
waits es cut l early later = stops (at_cut es cut l) early 1 && completes (at_cut es cut l) later

-- the order is complete with as many steps as MANUAL 5.8 says; it is complete with another number of them
abbrev exact : Run → List ℕ → Bool
exact R order = leaves (λ s. is_none (lowest R s) && eqb (steps order) (exact_steps R)) (run R order)

abbrev inexact : Run → List ℕ → Bool
inexact R order = leaves (λ s. is_none (lowest R s) && not (eqb (steps order) (exact_steps R))) (run R order)

-- the order is carried out, complete or not, and 1 has received these messages from 0: number and value
abbrev delivers : Run → List ℕ → List (ℕ × ℕ) → Bool
delivers R order ps = leaves (λ s. same_pairs (delivered R s 0 1) ps) (run R order)

-- exactly one orphan, from 0 to 1 with number 1, of a phase
abbrev only_orphan : List Listed → ℕ → Bool
only_orphan [] r = false
only_orphan (m ∷ []) r = eqb m.from 0 && (eqb m.to 1 && (eqb m.number 1 && eqb m.phase r))
only_orphan (m ∷ n ∷ ms) r = false

-- ---- The traces: of rows 1, 2 and 3, 4, 6, 7, 8 and 9, 10, 12, 16, 17 and 19, 18, 20

abbrev t1 : List Event
t1 = Save 1 ∷ Send 0 1 0 ∷ Recv 1 0 ∷ []

abbrev t2 : List Event
t2 = Send 0 1 0 ∷ Recv 1 0 ∷ Send 1 0 0 ∷ []

abbrev t4 : List Event
t4 = Send 0 1 0 ∷ Recv 1 0 ∷ Save 1 ∷ Send 1 0 0 ∷ []

abbrev t6 : List Event
t6 = Save 0 ∷ Send 1 0 0 ∷ Recv 0 1 ∷ Send 0 1 0 ∷ Recv 1 0 ∷ []

abbrev t7 : List Event
t7 = Save 0 ∷ Send 0 1 0 ∷ Recv 1 0 ∷ Send 1 0 0 ∷ Recv 0 1 ∷ Send 0 1 0 ∷ Recv 1 0 ∷ []

abbrev t8 : List Event
t8 = Send 0 1 6 ∷ Send 0 1 6 ∷ Recv 1 0 ∷ []

abbrev t10 : List Event
t10 = Send 0 1 0 ∷ Recv 1 0 ∷ Send 0 1 0 ∷ Recv 1 0 ∷ []

abbrev t12 : List Event
t12 = Send 0 1 5 ∷ Send 0 1 6 ∷ Recv 1 0 ∷ Recv 1 0 ∷ []

abbrev t16 : List Event
t16 = Save 0 ∷ Save 0 ∷ Done 0 ∷ []

abbrev t17 : List Event
t17 = Save 0 ∷ Save 1 ∷ Send 0 1 0 ∷ Recv 1 0 ∷ Done 1 ∷ []

abbrev t18 : List Event
t18 = Save 0 ∷ Send 0 1 0 ∷ Recv 1 0 ∷ Done 0 ∷ []

abbrev t20 : List Event
t20 = Send 0 1 0 ∷ Recv 1 0 ∷ Save 1 ∷ Done 1 ∷ Send 1 0 0 ∷ Recv 0 1 ∷ []

-- ---- The rows. Each is a theorem of its own, so that a definition that is wrong names the row that it makes false.

-- all these traces are well formed
fit : every (map (λ es. well_formed (two es)) (t1 ∷ t2 ∷ t4 ∷ t6 ∷ t7 ∷ t8 ∷ t10 ∷ t12 ∷ t16 ∷ t17 ∷ t18 ∷ t20 ∷ [])) ≡ true
unfolding opens every
fit = refl

-- an orphan's phase is its sender's at the send
d1 : only_orphan (orphans (at_cut t1 3 (1 ∷ 32 ∷ []))) 1 ≡ true
unfolding opens
d1 = refl

-- a staying process waits for its phase at the cut, one that goes back does not wait for the orphans that it sends
-- first itself
d2 : waits t2 2 (1 ∷ 32 ∷ []) (1 ∷ []) (0 ∷ 1 ∷ []) ≡ true
unfolding opens
d2 = refl

-- a kept message waits for its own phase
d3 : waits t2 3 (1 ∷ 32 ∷ []) (128 ∷ []) (0 ∷ 128 ∷ []) ≡ true
unfolding opens
d3 = refl

-- a process that goes back waits for its phase at restart, less 1
d4 : waits t4 4 (1 ∷ 2 ∷ []) (1 ∷ []) (0 ∷ 1 ∷ []) ≡ true
unfolding opens
d4 = refl

-- a kept message waits for no more than its own phase
d6 : completes (at_cut t6 5 (1 ∷ 32 ∷ [])) (0 ∷ 128 ∷ 0 ∷ 0 ∷ []) ≡ true
unfolding opens
d6 = refl

-- a logged receive raises the phase above the message's
d7 : completes (at_cut t7 7 (2 ∷ 32 ∷ [])) (0 ∷ 128 ∷ 0 ∷ 0 ∷ []) ≡ true
unfolding opens
d7 = refl

-- a message in transit at the cut is kept, and a send on its channel waits for it
d8 : waits t8 1 (32 ∷ 1 ∷ []) (0 ∷ []) (65 ∷ 0 ∷ 1 ∷ []) ≡ true
unfolding opens
d8 = refl

-- a message of equal epochs is lost, and a record that has another in its place differs, though the value is the same
d9 : differs (at_cut t8 3 (32 ∷ 1 ∷ [])) (65 ∷ 1 ∷ []) ≡ true
unfolding opens
d9 = refl

-- an orphan that is sent again is dropped
d10 : completes (at_cut t10 2 (1 ∷ 32 ∷ [])) (0 ∷ 0 ∷ 1 ∷ []) ≡ true
unfolding opens
d10 = refl

-- the greatest line sends back the sender of a lost message, and not the receiver of an orphan
d11 : (line_is t8 3 2 1 1 && line_is t10 2 1 1 32) ≡ true
unfolding opens
d11 = refl

-- a receive needs a message in the channel; kept messages go in oldest first
d12 : waits t12 2 (32 ∷ 1 ∷ []) (1 ∷ []) (65 ∷ 65 ∷ 1 ∷ 1 ∷ []) ≡ true
unfolding opens
d12 = refl

-- the formula counts the events after the cut, of a process that stays no others, and every kept message, also one that
-- nobody receives
d13 : (exact (at_cut t10 2 (1 ∷ 32 ∷ [])) (0 ∷ 0 ∷ 1 ∷ []) && exact (at_cut t8 2 (32 ∷ 1 ∷ [])) (65 ∷ 65 ∷ 1 ∷ [])) ≡ true
unfolding opens
d13 = refl

-- from a line that loses a message a complete order may have fewer steps; that it has as many does not show that none
-- is lost (row 9); the limit for such lines is twice the events
d14 : (inexact (at_cut t10 4 (32 ∷ 1 ∷ [])) [] && (exact (at_cut t8 3 (32 ∷ 1 ∷ [])) (65 ∷ 1 ∷ []) && eqb (most_steps (two t10)) 8)) ≡ true
unfolding opens
d14 = refl

-- a record has number and value of each message, in the order of the receives: of a complete order; of one that is not,
-- those so far; from a line with loss, where the run without failure has (1, 6), another message
d15 :
    (delivers (at_cut t12 2 (32 ∷ 1 ∷ [])) (65 ∷ 65 ∷ 1 ∷ 1 ∷ []) ((1, 5) ∷ (2, 6) ∷ [])
    && (delivers (at_cut t12 2 (32 ∷ 1 ∷ [])) (65 ∷ 1 ∷ []) ((1, 5) ∷ [])
    && (delivers (at_cut t8 3 (32 ∷ 1 ∷ [])) (65 ∷ 1 ∷ []) ((2, 6) ∷ [])
    && same_pairs (faultless (at_cut t8 3 (32 ∷ 1 ∷ [])) 0 1) ((1, 6) ∷ [])))) ≡ true
unfolding opens
d15 = refl

-- a save that is not finished at the cut cannot be restarted from (MANUAL 4.2); a done finishes the oldest
d16 : (line_is t16 1 1 1 32 && (line_is t16 2 1 1 32 && line_is t16 3 1 2 32)) ≡ true
unfolding opens
d16 = refl

-- the sender of a lost message goes back to its latest finished epoch, which may lie below the epoch of the send, and
-- below the latest finished epoch of every failed process
d17 : line_is t17 5 2 1 2 ≡ true
unfolding opens
d17 = refl

-- a restart is right after the save, not after its done: what was sent between them is sent again, and the done is
-- listed
d18 : (line_is t18 4 1 2 32 && (completes (at_cut t18 4 (2 ∷ 32 ∷ [])) (0 ∷ 0 ∷ []) && exact (at_cut t18 4 (2 ∷ 32 ∷ [])) (0 ∷ 0 ∷ []))) ≡ true
unfolding opens
d18 = refl

-- an unfinished save is one that is made and not finished
d19 : (unfinished_at (two t17) 5 0 && (not (unfinished_at (two t17) 5 1) && (unfinished_at (two t17) 4 1 && not (unfinished_at (two t17) 0 0)))) ≡ true
unfolding opens
d19 = refl

-- epoch and phase rise at the save and not again at its done: what is sent after both carries the phase of the save
d20 : eqb (phase_at (two t20) (rule_of (two t20)) 0 6) 2 ≡ true
unfolding opens
d20 = refl
