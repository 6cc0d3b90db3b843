-- What a class is by the theory's definitions.
use Rattle.std.specs.Prelude.{ℕ, ◌≡◌, Bool, ◌&&◌, not, ltb, eqb}
use Rattle.theory.specs.Events.{send_of}
use Rattle.theory.specs.Line.{Run, orphan, kept, lost, received_before}

-- message k from p to q is sent after its sender's restart, be it after the cut, and not received before its
-- receiver's: it goes through its channel when a replay sends it
unfoldable pub upcoming : Run → ℕ → ℕ → ℕ → Bool
upcoming R p q k = ltb (R.restart p) (send_of R.trace p q k) && not (received_before R p q k)

-- what a class says of message k from p to q: 1 an orphan, 2 kept, 3 lost, 4 upcoming, any other number none of them
pub record Classed (R : Run) (p q k class : ℕ) : Type 0 where
  pub is_orphan : orphan R p q k ≡ eqb class 1
  pub is_kept : kept R p q k ≡ eqb class 2
  pub is_lost : lost R p q k ≡ eqb class 3
  pub is_upcoming : upcoming R p q k ≡ eqb class 4
