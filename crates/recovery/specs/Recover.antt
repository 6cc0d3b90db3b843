-- What `recover` answers: the restart, and with its line what `lowest` and `messages` answer (Answers, Messages) with
-- the table lent as the run area.
use Rattle.std.specs.Prelude.{ℕ, ◌+◌, ◌≤◌, ◌≡◌, List, length, Result, Ok, Err}
use Rattle.table.specs.Held.{held}
use Rattle.refusal.specs.declared.Refused.{Refused}
use Rattle.recovery.specs.declared.Recovered.{Recovered}
use Rattle.theory.specs.Order.{lowest_order}
use Rattle.theory.specs.Answers.{exact_steps}
use Rattle.orders.specs.Answer.{Answered}
use Rattle.preparing.specs.Faults.{line_fault_of, run_of}
use Rattle.recovery.specs.Answers.{replay_answer, replay_found, replay_answered, StepsAtMost, Completed}
use Rattle.messages.specs.Messages.{MessagesAnswer, messages_answer, messages_area, messages_found, messages_answered}
use Rattle.messages.specs.Meaning.{Lists}
use Rattle.restart.specs.Restart.{RestartAnswer, restart_answer, restart_found, restart_answered, Restarts}

-- What is answered, refused or not: the three answers.
pub record RecoverAnswer : Type 0 where
  pub restarted : RestartAnswer
  pub replayed : Answered
  pub counted : MessagesAnswer

-- the answer that a `Result` of the code stands for; a refusal has its number in each of the three
abbrev pub recover_found : Recovered → RecoverAnswer
recover_found r =
    record { restarted = restart_found r.restarted; replayed = replay_found r.replayed; counted = messages_found r.counted }

abbrev pub recover_answered : Result Recovered Refused → RecoverAnswer
recover_answered (Ok r) = recover_found r
recover_answered (Err e) =
    record { restarted = restart_answered (Err e); replayed = replay_answered (Err e); counted = messages_answered (Err e) }

-- of an answer that is no refusal: demand 2; the engine's line is not refused; the lowest order is carried out to its
-- end, with as many steps as `exact_steps` says, since that line loses no message
pub record Succeeds (a : List ℕ) (step set : ℕ) (r : RecoverAnswer) : Type 0 where
  pub restarts : Restarts (held a) step set r.restarted
  pub taken : line_fault_of a (length a) step set r.restarted.line ≡ 0
  pub completed : Completed a (length a) step set r.restarted.line r.replayed
  pub exact : r.replayed.steps ≡ exact_steps (run_of a step r.restarted.line)
  pub at_most : StepsAtMost a step r.restarted.line r.replayed
  pub few : r.counted.orphans + (r.counted.kept + r.counted.lost) ≤ 2048

-- What is promised of the answers r and of the words w that are left in the table: what `restart` answers; with its line
-- what `lowest` and `messages` answer, and the list that `messages` leaves; and, if it is no refusal, what they mean.
pub record Recovers (a : List ℕ) (step set : ℕ) (r : RecoverAnswer) (w : List ℕ) : Type 0 where
  pub restart : r.restarted ≡ restart_answer a step set
  pub replay : r.replayed ≡ replay_answer a a step set r.restarted.line (lowest_order (run_of a step r.restarted.line))
  pub messages : r.counted ≡ messages_answer a a step set r.restarted.line
  pub words : w ≡ messages_area a a step set r.restarted.line
  pub means : r.restarted.number ≡ 0 → Succeeds a step set r
  pub lists : r.counted.number ≡ 0 → Lists (run_of a step r.restarted.line) r.counted.orphans r.counted.kept r.counted.lost w
