-- Demand 1 (MANUAL 9.1; quotations here and in the other files are from the requirements): "Nothing unfit is accepted,
-- nothing fit is refused, and no refusal leaves anything in a lent area but" what MANUAL 6.4 says. Of `restart`,
-- `messages`, `replay` and `lowest`, by the definitions of what they answer and leave (`restart_answer`,
-- `messages_answer`, `messages_area`, `replay_answer`, `replay_area`: the contracts give these for every input), for
-- every table area a, run area, failure, line and order.
-- (The first half of the demand, no step outside lent memory, no number that wraps, no run without end, is that every
-- function is proved and that none of these has a `requires`. For texts: crates/reader/proofs/Claims.)
use Prim.Native.Nat.{ℕ, suc, ◌≤◌, ◌<◌}
use mathlib.Core.Path.{◌≡◌}
use mathlib.Core.Logic.{◌↔◌}
use mathlib.Core.Bool.{false}
use mathlib.Core.List.{List}
use mathlib.Core.Option.{none}
use lib.ListN.{length, get_or, take, drop, replicate}
use Rattle.words.specs.Area.{area_words}
use Rattle.trace.specs.Trace.{Trace}
use Rattle.reader.specs.Verdict.{accepted, verdict}
use Rattle.reader.specs.Answer.{read_area}
use Rattle.table.specs.Held.{held}
use Rattle.theory.specs.Line.{Run}
use Rattle.theory.specs.Replay.{State}
use Rattle.theory.specs.Order.{carried_out, choose, run, lowest_order}
use Rattle.theory.specs.Inner.Orders.{Allowed}
use Rattle.theory.specs.Inner.Refusals.{FitFailure, FitLine}
use Rattle.recovery_line.specs.declared.Line.{Line}
use Rattle.recovery_line.specs.Given.{line_in}
use Rattle.orders.specs.Answer.{Answered}
use Rattle.preparing.specs.Faults.{run_of}
use Rattle.restart.specs.Restart.{restart_answer}
use Rattle.messages.specs.Messages.{messages_answer, messages_area}
use Rattle.recovery.specs.Answers.{replay_answer, replay_area}
use Rattle.demands.proofs.Numbers.{Left, FailureNumbers, Areas, LineNumbers, left_by_reading, restart_number, messages_number, failure_numbers_lem, line_accepts, line_numbers}
use Rattle.demands.proofs.Replays.{replay_numbers_lem, refused_answer, refused_nowhere, past_kept}
use Rattle.demands.proofs.Fits.{restart_refused_by, messages_refused_by, messages_kept, messages_past, replay_fit, replay_eleven, eleven_place, eleven_area, replay_kept, lowest_fit}

-- "What is fit": "what reading some accepted trace leaves there" is `Left` (Numbers). Reading an accepted text leaves
-- such an area, with the trace that it was accepted as.
pub read_fit : (text a : List ℕ) (t : Trace) → verdict text ≡ accepted t → area_words ≤ length a → Left (read_area text a) × (held (read_area text a) ≡ t)
read_fit = left_by_reading

-- ---- `restart`

module _ (a : List ℕ) (step set : ℕ) where
  -- accepted exactly if the area is what reading leaves, the step within the trace, the set not empty and of its
  -- processes only
  pub restart_accepts : ((restart_answer a step set).number ≡ 0) ↔ (Left a × FitFailure (held a) step set)
  restart_accepts = rw (restart_number a step set) (failure_numbers_lem a step set).accepts

  -- "12: a table .. area is under 16,384 words" "13: .. aren't what reading some accepted trace leaves there." "8: K is
  -- beyond the last event." "9: the set is empty or names a zone N or more.": each exactly then
  pub restart_refuses : FailureNumbers a step set (restart_answer a step set).number
  restart_refuses = rw (restart_number a step set) (failure_numbers_lem a step set)

  -- "In a refused answer every other number is 0 and every yes or no is no."
  pub restart_refused : ((restart_answer a step set).number ≡ 0 → ⊥)
      → restart_answer a step set
      ≡ record {
        number = (restart_answer a step set).number;
        place = 0;
        line = record { epochs = replicate 64 0; count = 0 };
        going = 0;
        back = 0;
        epochs = replicate 64 0;
        phases = replicate 64 0;
      }
  restart_refused = restart_refused_by a step set

-- ---- `messages`

module _ (a area : List ℕ) (step set : ℕ) (l : Line) where
  -- and the line has a number for each process, each permitted
  pub messages_accepts : ((messages_answer a area step set l).number ≡ 0) ↔ (Areas a (length area) × FitLine (held a) step set l.count (line_in l))
  messages_accepts = rw (messages_number a area step set l) (line_accepts a (length area) step set l)

  -- 12, 13, 8, 9, "10: the line hasn't N numbers, or one isn't permitted."
  pub messages_refuses : LineNumbers a (length area) step set l (messages_answer a area step set l).number
  messages_refuses = rw (messages_number a area step set l) (line_numbers a (length area) step set l)

  pub messages_refused : ((messages_answer a area step set l).number ≡ 0 → ⊥)
      → messages_answer a area step set l ≡ record { number = (messages_answer a area step set l).number; place = 0; orphans = 0; kept = 0; lost = 0 }
  messages_refused = messages_refused_by a area step set l

  -- "Other refusals change nothing."
  pub messages_change_nothing : ((messages_answer a area step set l).number ≡ 0 → ⊥) → messages_area a area step set l ≡ area
  messages_change_nothing = messages_kept a area step set l

  -- "Words past 16,384 are never touched."
  pub messages_end_there : drop area_words (messages_area a area step set l) ≡ drop area_words area
  messages_end_there = messages_past a area step set l

-- ---- `replay`

module _ (a area : List ℕ) (step set : ℕ) (l : Line) (order : List ℕ) where
  abbrev R : Run
  R = run_of a step l

  abbrev answer : Answered
  answer = replay_answer a area step set l order

  -- and each choice is "allowed where it comes"
  pub replay_accepts : (answer.number ≡ 0)
      ↔ (Areas a (length area)
      × (FitLine (held a) step set l.count (line_in l)
      × ((m : ℕ) → m < length order → (s : State) × (run R (take m order) ≡ carried_out s) × Allowed R s (get_or order m 0))))
  replay_accepts = replay_fit a area step set l order

  -- 12, 13, 8, 9 and 10
  pub replay_refuses : LineNumbers a (length area) step set l answer.number
  replay_refuses = replay_numbers_lem a area step set l order

  -- "11: a choice isn't allowed where it comes."
  pub replay_refuses_11 : (answer.number ≡ 11)
      ↔ (Areas a (length area)
      × (FitLine (held a) step set l.count (line_in l)
      × ((m : ℕ) × (s : State) × (m < length order) × (run R (take m order) ≡ carried_out s) × (choose R s (get_or order m 0) ≡ none))))
  replay_refuses_11 = replay_eleven a area step set l order

  -- "for 11 the place in the order from 1": those before it are carried out, and it is not allowed in what they leave,
  -- so that it is the first that is not
  pub refused_at_first : answer.number ≡ 11
      → (m : ℕ) × (s : State) × (answer.place ≡ suc m) × (m < length order) × (run R (take m order) ≡ carried_out s) × (choose R s (get_or order m 0) ≡ none)
  refused_at_first = eleven_place a area step set l order

  -- "In a refused answer every other number is 0 and every yes or no is no."
  pub replay_refused : (answer.number ≡ 0 → ⊥) → answer ≡ record { number = answer.number; place = answer.place; steps = 0; complete = false }
  replay_refused = refused_answer a area step set l order

  -- "for 11 the place in the order from 1, else 0"
  pub replay_nowhere : (answer.number ≡ 0 → ⊥) → (answer.number ≡ 11 → ⊥) → answer.place ≡ 0
  replay_nowhere = refused_nowhere a area step set l order

  -- "after 11 those of the run area are [zero]. Other refusals change nothing. Words past 16,384 are never touched."
  pub refused_zeros : answer.number ≡ 11 → take area_words (replay_area a area step set l order) ≡ replicate area_words 0
  refused_zeros = eleven_area a area step set l order

  pub replay_changes_nothing : (answer.number ≡ 0 → ⊥) → (answer.number ≡ 11 → ⊥) → replay_area a area step set l order ≡ area
  replay_changes_nothing = replay_kept a area step set l order

  pub replay_ends_there : drop area_words (replay_area a area step set l order) ≡ drop area_words area
  replay_ends_there = past_kept a area step set l order

-- ---- `lowest`: the same with its own order, which is never refused with 11

pub lowest_accepts : (a area : List ℕ) (step set : ℕ) (l : Line)
    → ((replay_answer a area step set l (lowest_order (run_of a step l))).number ≡ 0) ↔ (Areas a (length area) × FitLine (held a) step set l.count (line_in l))
lowest_accepts = lowest_fit
