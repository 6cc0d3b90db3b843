-- Demand 2 (MANUAL 9.1): "Epochs, phases, kept messages, orphans and lost messages are those of the send-deterministic
-- protocol ..", as MANUAL 3 and 4 fix it, "each counted if and only if its definition holds. A replay does the one step
-- of each choice and no other; its record, steps and completeness are those of the order it was given, whatever the
-- line. The line given is the greatest that loses no message: in no other such line does any zone keep more of its
-- work."
-- Of what `restart`, `messages` and `replay` answer and leave, by their definitions, for every input that is not
-- refused.
-- What the definitions of epochs, phases and classes mean by events: crates/theory/proofs/Claims.
use Prim.Native.Nat.{ℕ, suc, ◌≤◌, ◌<◌}
use mathlib.Core.Path.{◌≡◌}
use mathlib.Core.List.{List}
use mathlib.Core.Option.{some}
use lib.ListN.{length, get_or, take}
use Rattle.trace.specs.Trace.{Trace}
use Rattle.table.specs.Held.{held}
use Rattle.theory.specs.Epochs.{phase_at, rule_of}
use Rattle.theory.specs.Line.{in_set, Run, LossFree, restart_in, current, Permitted, usable_at, run_at}
use Rattle.theory.specs.Replay.{State}
use Rattle.theory.specs.Order.{carried_out, choose, run, lowest_order}
use Rattle.recovery_line.specs.declared.Line.{Line}
use Rattle.recovery_line.specs.Given.{line_in}
use Rattle.preparing.specs.Faults.{run_of}
use Rattle.restart.specs.Restart.{restart_answer, Restarts}
use Rattle.messages.specs.Messages.{counts_of, messages_answer, messages_area}
use Rattle.messages.specs.Meaning.{Lists}
use Rattle.recovery.specs.Answers.{replay_answer, replay_area, StepsExact, StepsAtMost}
use Rattle.demands.proofs.Restarting.{restart_promised, epoch_at_lem, phase_at_lem, count_is, number_past, keeps_most}
use Rattle.demands.proofs.Listing.{messages_promised, counts_are}
use Rattle.demands.proofs.Unread.{same_lines, same_messages, same_replays, same_lowest}
use Rattle.demands.proofs.Replays.{promised, Carried, accepted, step_of_each}

-- ---- `restart`

module _ (a : List ℕ) (step set : ℕ) (ok : (restart_answer a step set).number ≡ 0) where
  abbrev t : Trace
  t = held a

  -- "Epoch is at the cut; phase is at the restart, or at the cut for 32."
  pub epochs_are : (z : ℕ) → z < t.procs → get_or (restart_answer a step set).epochs z 0 ≡ current t (rule_of t) step z
  epochs_are = epoch_at_lem a step set ok

  pub phases_are : (z : ℕ) → z < t.procs
      → get_or (restart_answer a step set).phases z 0 ≡ phase_at t (rule_of t) z (restart_in t step (line_in (restart_answer a step set).line) z)
  phases_are = phase_at_lem a step set ok

  -- "A restart line holds one number for each zone"; "Places of a line past its N numbers are 0 when the engine gives
  -- it"
  pub one_for_each : (restart_answer a step set).line.count ≡ t.procs
  one_for_each = count_is a step set ok

  pub zero_past : (z : ℕ) → t.procs ≤ z → get_or (restart_answer a step set).line.epochs z 0 ≡ 0
  zero_past = number_past a step set ok

  -- "The engine's line is the greatest without a lost message." With unfinished saves (MANUAL 4.6): "The floor becomes
  -- the smallest, over the failed zones and those with an unfinished save, of the latest finished epoch at the cut. In
  -- a trace with no `done`, each zone that goes back goes to epoch 1." "The zones that go back form a set of the same
  -- kind, and back is its size." (the contract of `restart` has the same clause)
  pub line_given_lem : Restarts t step set (restart_answer a step set)
  line_given_lem = restart_promised a step set ok

  -- "in no other such line does any zone keep more of its work"
  pub most_kept : (m : ℕ → ℕ) → Permitted t (rule_of t) step (usable_at t step) (in_set set) m → LossFree (run_at t step m)
      → (z : ℕ) → z < t.procs → restart_in t step m z ≤ restart_in t step (line_in (restart_answer a step set).line) z
  most_kept = keeps_most a step set ok

-- ---- `messages`

module _ (a area : List ℕ) (step set : ℕ) (l : Line) (ok : (messages_answer a area step set l).number ≡ 0) where
  -- "each counted if and only if its definition holds": the list names each message of its class and no other, with its
  -- phase, strictly ascending "by sender, receiver, number"; none is lost exactly if the line loses none (the contract
  -- of `messages` has the same clause)
  pub each_listed : Lists (run_of a step l) (messages_answer a area step set l).orphans (messages_answer a area step set l).kept (messages_answer a area step set l).lost (messages_area a area step set l)
  each_listed = (messages_promised a area step set l).1.1.1 ok

  -- the counts are the sizes of the classes
  pub counted : messages_answer a area step set l ≡ counts_of (run_of a step l)
  counted = counts_are a area step set l ok

-- "Places of a line past its N numbers .. aren't read when it takes one.": lines with the same N numbers have the same
-- answers and areas
module _ (a area : List ℕ) (step set : ℕ) (l m : Line) (count : l.count ≡ m.count)
    (numbers : (z : ℕ) → z < l.count → get_or l.epochs z 0 ≡ get_or m.epochs z 0) where
  pub messages_unread : (messages_answer a area step set l ≡ messages_answer a area step set m) × (messages_area a area step set l ≡ messages_area a area step set m)
  messages_unread = same_messages a area step set l m count (same_lines l m count numbers)

  pub replay_unread : (order : List ℕ)
      → (replay_answer a area step set l order ≡ replay_answer a area step set m order) × (replay_area a area step set l order ≡ replay_area a area step set m order)
  replay_unread order = same_replays a area step set l m count (same_lines l m count numbers) order

  pub lowest_unread : let one = lowest_order (run_of a step l) in let two = lowest_order (run_of a step m) in
      (replay_answer a area step set l one ≡ replay_answer a area step set m two) × (replay_area a area step set l one ≡ replay_area a area step set m two)
  lowest_unread = same_lowest a area step set l m count (same_lines l m count numbers)

-- ---- `replay`

module _ (a area : List ℕ) (step set : ℕ) (l : Line) (order : List ℕ) where
  abbrev R : Run
  R = run_of a step l

  -- "its record, steps and completeness are those of the order it was given, whatever the line"; "An accepted replay
  -- leaves in the run area the record of the order it carried out, complete or not, from a line with loss or without."
  pub replays : (replay_answer a area step set l order).number ≡ 0 → (s : State) × Carried a area step set l order s
  replays = accepted a area step set l order

  -- "A replay does the one step of each choice and no other"
  pub steps_one_by_one : (replay_answer a area step set l order).number ≡ 0 → (m : ℕ) → m < length order
      → (u v : State) × (run R (take m order) ≡ carried_out u) × (choose R u (get_or order m 0) ≡ some v) × (run R (take (suc m) order) ≡ carried_out v)
  steps_one_by_one = step_of_each a area step set l order

  -- "Steps is the length of the order carried out, and is at most twice the number of events."; whatever the line,
  -- complete or not; a refusal has none (the contract of `replay` has the same clauses)
  pub at_most_twice : StepsAtMost a step l (replay_answer a area step set l order)
  at_most_twice = (promised a area step set l order).at_most

  -- MANUAL 5.8: exactly so many, where the order is complete and the line loses nothing
  pub exactly : StepsExact a step l (replay_answer a area step set l order)
  exactly = (promised a area step set l order).exact
