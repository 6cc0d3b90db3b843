-- What the contract of `restart` promises, clause by clause, as one statement, through which `restart` is proved; of an
-- answer it is `Answered` (proofs/Restarting, `answered`), the runs' premise. No public contract cites it.
use Rattle.std.specs.Prelude.{ℕ, ◌≡◌, List, Result, IfOk}
use Rattle.table.specs.Held.{held}
use Rattle.refusal.specs.declared.Refused.{Refused}
use Rattle.restart.specs.declared.Restarted.{Restarted}
use Rattle.restart.specs.Restart.{restart_found, restart_answer, restart_answered, Restarts}

-- of the result x
pub record RestartPromise (a : List ℕ) (step set : ℕ) (x : Result Restarted Refused) : Type 0 where
  pub answer : restart_answered x ≡ restart_answer a step set
  pub means : IfOk x (λ r. Restarts (held a) step set (restart_found r))
