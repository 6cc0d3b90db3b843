-- What the public functions of recovery answer and leave, for every input (MANUAL 6.3 and 6.4; quotations are from the
-- requirements): the order is 12, 13, 8, 9, 10, 11; "In a refused answer every other number is 0 and every yes or no is
-- no"; "Other refusals change nothing".
use Rattle.std.specs.Prelude.{ℕ, ◌≤◌, ◌≡◌, ◌↔◌, true, false, cond, List, ◌++◌, length, take, drop, eqb, Result, Ok, Err}
use Rattle.words.specs.Area.{area_words, words_from}
use Rattle.table.specs.Held.{held}
use Rattle.theory.specs.Line.{LossFree}
use Rattle.theory.specs.Replay.{State}
use Rattle.theory.specs.Record.{delivered, faultless}
use Rattle.theory.specs.Order.{carried_out, run, steps, most_steps, Complete, lowest_order}
use Rattle.theory.specs.Answers.{exact_steps}
use Rattle.recovery_line.specs.declared.Line.{Line}
use Rattle.orders.specs.Record.{faultless_at, list_in}
use Rattle.orders.specs.declared.Replayed.{Replayed}
use Rattle.orders.specs.Answer.{Answered, answer_of, words_of}
use Rattle.refusal.specs.declared.Refused.{Refused}
use Rattle.refusal.specs.Refusals.{number_of_refusal}
use Rattle.preparing.specs.Faults.{run_of, line_fault_of}

abbrev pub refusal : ℕ → Answered
refusal n = record { number = n; place = 0; steps = 0; complete = false }

-- an order carried out from a line, by the theory's machine: answer and run area. After 11 its first 16,384 words are
-- zero.
unfoldable pub replay_answer : List ℕ → List ℕ → ℕ → ℕ → Line → List ℕ → Answered
replay_answer a area step set l order =
    cond (eqb (line_fault_of a (length area) step set l) 0) (answer_of (run_of a step l) (run (run_of a step l) order) (length order)) (refusal (line_fault_of a (length area) step set l))

unfoldable pub replay_area : List ℕ → List ℕ → ℕ → ℕ → Line → List ℕ → List ℕ
replay_area a area step set l order =
    cond (eqb (line_fault_of a (length area) step set l) 0) (words_of (run_of a step l) (run (run_of a step l) order) ++ drop area_words area) area

-- Demand 3: after a complete order the record in the run area is that of the run without failure exactly if the line
-- loses no message.
abbrev pub Equal : List ℕ → ℕ → Line → Answered → List ℕ → Type 0
Equal a step l r w =
    r.number ≡ 0 → r.complete ≡ true → (take area_words w ≡ words_from (faultless_at (held a)) 0 area_words) ↔ LossFree (run_of a step l)

-- "An accepted replay leaves in the run area the record of the order it carried out, complete or not, from a line with
-- loss or without.": an order whose answer has the number n, 0, is carried out, and the lists read from the area are
-- those of the state that it comes to, on every channel.
abbrev pub Recorded : List ℕ → ℕ → Line → List ℕ → ℕ → List ℕ → Type 0
Recorded a step l order n w =
    let R = run_of a step l in
    n ≡ 0 → (s : State) × (run R order ≡ carried_out s) × ((p q : ℕ) → list_in (held a) w p q ≡ delivered R s p q)

-- Demand 3 by lists: "Equal is the same numbers and values in the same order on every channel."
abbrev pub SameLists : List ℕ → ℕ → Line → Answered → List ℕ → Type 0
SameLists a step l r w =
    let R = run_of a step l in
    r.number ≡ 0 → r.complete ≡ true → ((p q : ℕ) → list_in (held a) w p q ≡ faultless R p q) ↔ LossFree R

-- An order that is not refused was carried out: "Steps is the length of the order carried out", and the answer says
-- whether it is complete, "when no choice is allowed".
abbrev pub CarriesOut : List ℕ → ℕ → Line → List ℕ → Answered → Type 0
CarriesOut a step l order r =
    let R = run_of a step l in
    r.number ≡ 0 → (s : State) × (run R order ≡ carried_out s) × (r.steps ≡ steps order) × ((r.complete ≡ true) ↔ Complete R s)

-- "For a line without loss, every complete order has exactly as many steps as there are listed events after the
-- restarts (after the cut for staying zones) plus kept messages." (MANUAL 5.8)
abbrev pub StepsExact : List ℕ → ℕ → Line → Answered → Type 0
StepsExact a step l r =
    r.number ≡ 0 → r.complete ≡ true → LossFree (run_of a step l) → r.steps ≡ exact_steps (run_of a step l)

-- Lines that lose a message have the upper limit "at most twice the number of events" (MANUAL 5.8); and no more
-- than that formula. Whatever the line and the order, complete or not; a refusal has no steps.
abbrev pub StepsAtMost : List ℕ → ℕ → Line → Answered → Type 0
StepsAtMost a step l r = (r.steps ≤ most_steps (held a)) × (r.steps ≤ exact_steps (run_of a step l))

-- "An order is complete when no choice is allowed": the lowest order is never refused, gets there, and has as many
-- steps as choices.
abbrev pub Completed : List ℕ → ℕ → ℕ → ℕ → Line → Answered → Type 0
Completed a room step set l r =
    line_fault_of a room step set l ≡ 0 → (r.number ≡ 0) × (r.complete ≡ true) × (r.steps ≡ steps (lowest_order (run_of a step l)))

-- the answer that a `Result` of the code stands for: its value, or the refusal's number and place, and 0 and no for the
-- rest
abbrev pub replay_found : Replayed → Answered
replay_found r = record { number = 0; place = 0; steps = r.steps; complete = r.complete }

abbrev pub replay_answered : Result Replayed Refused → Answered
replay_answered (Ok r) = replay_found r
replay_answered (Err e) = record { number = number_of_refusal e.refusal; place = e.place; steps = 0; complete = false }

-- What is promised of an order that is replayed from a line on the table area a, of the answer r and of the words that
-- are left in the run area: the answer and the words themselves, and what they mean.
pub record Replays (a area : List ℕ) (step set : ℕ) (l : Line) (order : List ℕ) (r : Answered) (w : List ℕ) : Type 0 where
  pub answer : r ≡ replay_answer a area step set l order
  pub words : w ≡ replay_area a area step set l order
  pub equal : Equal a step l r w
  pub exact : StepsExact a step l r
  pub at_most : StepsAtMost a step l r
  pub carried : CarriesOut a step l order r
  pub recorded : Recorded a step l order r.number w
  pub same_lists : SameLists a step l r w
