-- What has been sent again, as the theorems state it.
use Rattle.std.specs.Prelude.{Bool, not, ℕ}
use Rattle.theory.specs.Inner.Lists.{has}
use Rattle.theory.specs.Events.{send_of}
use Rattle.theory.specs.Line.{Run}
use Rattle.theory.specs.Replay.{State}

module _ (R : Run) where
  -- message k from p to q has been sent again: its send is no longer to do
  unfoldable pub sent_again : State → ℕ → ℕ → ℕ → Bool
  sent_again s p q k = not (has (send_of R.trace p q k) (s.todo p))
