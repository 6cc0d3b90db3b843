-- Orders of choice numbers (MANUAL 5.3, 5.5, 5.9): allowed, carried out or refused at a place, complete, the lowest
-- order. Quotations are from the requirements.
use Rattle.std.specs.Prelude.{◌≡◌, Bool, true, false, cond, List, [], ◌∷◌, ℕ, zero, suc, ◌+◌, ◌-◌, ◌*◌, ◌/◌, ◌%◌, length, ltb}
use Rattle.std.proofs.Math.Option.{Option, none, some, bind}
use Rattle.trace.specs.Trace.{Trace}
use Rattle.theory.specs.Lists.{all_below, if_some, or_else, first}
use Rattle.theory.specs.Events.{size}
use Rattle.theory.specs.Line.{Run}
use Rattle.theory.specs.Replay.{Choice, process, hand, State, step, start}

-- "An order is a list of 16-bit choice numbers." "0 to 63: that zone"; "64 + 64·P + Q"; "Any other number isn't
-- allowed."
unfoldable pub choice_of : ℕ → Option Choice
choice_of c = cond (ltb c 64) (some (process c)) (cond (ltb c 4160) (some (hand ((c - 64) / 64) ((c - 64) % 64))) none)

-- an order is carried out, or refused at the place of its first choice that is not allowed
pub data Outcome : Type 0 where
  carried_out : State → Outcome
  refused : ℕ → Outcome

abbrev pub is_none : {A : Type 0} → Option A → Bool
is_none none = true
is_none (some a) = false

-- "Steps is the length of the order carried out, and is at most twice the number of events."
abbrev pub steps : List ℕ → ℕ
steps order = length order

abbrev pub most_steps : Trace → ℕ
most_steps t = size t + size t

module _ (R : Run) where
  -- the state that a choice number leaves, or none
  unfoldable pub choose : State → ℕ → Option State
  choose s c = bind (choice_of c) (step R s)

  -- "each later one finds what the one before it left, and nothing else changes it"; the first choice has place i
  unfoldable pub carry : State → ℕ → List ℕ → Outcome
  carry s i [] = carried_out s
  carry s i (c ∷ cs) = if_some (choose s c) (refused i) (λ t. carry t (suc i) cs)

  unfoldable pub run : List ℕ → Outcome
  run order = carry (start R) 1 order

  -- "An order is complete when no choice is allowed"
  abbrev pub Complete : State → Type 0
  Complete s = (c : ℕ) → choose s c ≡ none

  -- the same, as it can be tested
  unfoldable pub complete : State → Bool
  complete s = all_below 4160 (λ c. is_none (choose s c))

  -- the lowest allowed choice of a run of N processes: a process, or else a channel by sender, then receiver
  abbrev pub named : ℕ → Option State → Option (ℕ × State)
  named c none = none
  named c (some t) = some (c, t)

  unfoldable pub lowest : State → Option (ℕ × State)
  lowest s =
      let n = R.trace.procs in
      or_else (first (λ z. named z (choose s z)) n) (first (λ p. first (λ q. named (64 + 64 * p + q) (choose s (64 + 64 * p + q))) n) n)

  -- "the order that always picks the lowest allowed choice", of at most n choices
  unfoldable pub lowest_from : ℕ → State → List ℕ
  lowest_from zero s = []
  lowest_from (suc n) s = if_some (lowest s) [] (λ r. r.0 ∷ lowest_from n r.1)

  -- no order is longer than that
  abbrev pub lowest_order : List ℕ
  lowest_order = lowest_from (most_steps R.trace) (start R)
