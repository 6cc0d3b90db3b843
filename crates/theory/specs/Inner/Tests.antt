-- What a table of runs can compute: small traces, orders judged, lists of messages looked into, records compared.
use Rattle.std.specs.Prelude.{Bool, true, false, ◌&&◌, ◌||◌, List, [], ◌∷◌, ℕ, eqb}
use Rattle.trace.specs.declared.Event.{Event}
use Rattle.trace.specs.Trace.{Trace, started, with_events}
use Rattle.theory.specs.Lists.{iv, no_one, all_below}
use Rattle.theory.specs.Events.{size, sent}
use Rattle.theory.specs.Line.{Run, lost}
use Rattle.theory.specs.Replay.{State}
use Rattle.theory.specs.Record.{delivered, faultless}
use Rattle.theory.specs.Order.{Outcome, carried_out, refused}
use Rattle.theory.specs.Answers.{Listed}

-- a trace of two processes
abbrev pub two : List Event → Trace
two es = with_events (started 2) es

-- equal lists of numbers and values
unfoldable pub same_pairs : List (ℕ × ℕ) → List (ℕ × ℕ) → Bool
same_pairs [] [] = true
same_pairs [] (y ∷ ys) = false
same_pairs (x ∷ xs) [] = false
same_pairs (x ∷ xs) (y ∷ ys) = eqb x.0 y.0 && (eqb x.1 y.1 && same_pairs xs ys)

-- does a list name message k from p to q
unfoldable pub names : ℕ → ℕ → ℕ → List Listed → Bool
names p q k [] = false
names p q k (m ∷ ms) = (eqb p m.from && (eqb q m.to && eqb k m.number)) || names p q k ms

-- an order: the place where it is refused, or 0; whether it is carried out and the state it leaves passes a test
abbrev pub place_of : Outcome → ℕ
place_of (carried_out s) = 0
place_of (refused i) = i

abbrev pub leaves : (State → Bool) → Outcome → Bool
leaves f (carried_out s) = f s
leaves f (refused i) = false

module _ (R : Run) where
  -- is no message lost
  unfoldable pub loss_free : Bool
  loss_free = all_below R.trace.procs (λ p. all_below R.trace.procs (λ q. no_one (lost R p q) (iv 0 (sent R.trace p q (size R.trace)))))

  -- are the records of a replay and of the run without failure equal, on every channel of the run
  unfoldable pub same_record : State → Bool
  same_record s = all_below R.trace.procs (λ p. all_below R.trace.procs (λ q. same_pairs (delivered R s p q) (faultless R p q)))
