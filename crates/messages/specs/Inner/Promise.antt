-- What the contract of `messages` promises, clause by clause, as one statement, through which `messages` is proved; of
-- an answer it is `Listed` (proofs/Listing, `listed`), the runs' premise. No public contract cites it.
use Rattle.std.specs.Prelude.{ℕ, ◌+◌, ◌≤◌, ◌≡◌, List, Result, IfOk}
use Rattle.recovery_line.specs.declared.Line.{Line}
use Rattle.refusal.specs.declared.Refused.{Refused}
use Rattle.preparing.specs.Faults.{run_of}
use Rattle.messages.specs.declared.Counted.{Counted}
use Rattle.messages.specs.Messages.{messages_answer, messages_area, messages_answered}
use Rattle.messages.specs.Meaning.{Lists}

-- of the result x and of the words w that are left in the run area
pub record MessagesPromise (a area : List ℕ) (step set : ℕ) (l : Line) (x : Result Counted Refused) (w : List ℕ) : Type 0 where
  pub answer : messages_answered x ≡ messages_answer a area step set l
  pub words : w ≡ messages_area a area step set l
  pub few : IfOk x (λ c. c.orphans + (c.kept + c.lost) ≤ 2048)
  pub means : IfOk x (λ c. Lists (run_of a step l) c.orphans c.kept c.lost w)
