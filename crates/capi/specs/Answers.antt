-- Answers as numbers in a lent slice, one after another: as many as there is room for, and the rest of the slice as it
-- was (`written`, crate writer).
use Rattle.std.specs.Prelude.{ℕ, ◌≤◌, ◌≡◌, ◌↔◌, List, [], ◌∷◌, ◌++◌, length, get_or, take, drop, cond}
use Rattle.words.specs.Area.{area_words, words_from}
use Rattle.reader.specs.Answer.{ReadAnswer}
use Rattle.reader.specs.Failure.{FailureAnswer}
use Rattle.rendering.specs.Write.{WriteAnswer}
use Rattle.recovery_line.specs.declared.Line.{Line}
use Rattle.table.specs.Held.{held}
use Rattle.orders.specs.Record.{faultless_at, list_in}
use Rattle.orders.specs.Answer.{Answered}
use Rattle.theory.specs.Line.{Run, LossFree}
use Rattle.theory.specs.Replay.{State}
use Rattle.theory.specs.Record.{faultless}
use Rattle.theory.specs.Order.{carried_out, run, steps, most_steps, Complete, lowest_order}
use Rattle.theory.specs.Answers.{exact_steps}
use Rattle.preparing.specs.Faults.{run_of, line_fault_of}
use Rattle.recovery.specs.Answers.{replay_answer, replay_area}
use Rattle.restart.specs.Restart.{RestartAnswer, Restarts}
use Rattle.messages.specs.Messages.{MessagesAnswer}
use Rattle.messages.specs.Meaning.{Lists}

-- a line from the slice of its numbers: its length is their count
abbrev pub line_given : List ℕ → Line
line_given l = record { epochs = words_from (λ z. get_or l z 0) 0 64; count = length l }

-- the numbers of each answer, without the number of the refusal, which the function returns
abbrev pub read_numbers : ReadAnswer → List ℕ
read_numbers a = a.place ∷ []

abbrev pub failure_numbers : FailureAnswer → List ℕ
failure_numbers a = a.place ∷ a.step ∷ a.set ∷ []

abbrev pub write_numbers : WriteAnswer → List ℕ
write_numbers w = w.place ∷ w.length ∷ []

abbrev pub restart_numbers : RestartAnswer → List ℕ
restart_numbers r = (r.place ∷ r.line.count ∷ r.back ∷ r.going ∷ []) ++ r.line.epochs ++ r.epochs ++ r.phases

abbrev pub messages_numbers : MessagesAnswer → List ℕ
messages_numbers c = c.place ∷ c.orphans ∷ c.kept ∷ c.lost ∷ []

abbrev pub replay_numbers : Answered → List ℕ
replay_numbers r = r.place ∷ r.steps ∷ cond r.complete 1 0 ∷ []

-- the lowest order, carried out
abbrev pub lowest_answer : List ℕ → List ℕ → ℕ → ℕ → Line → Answered
lowest_answer a area step set l = replay_answer a area step set l (lowest_order (run_of a step l))

abbrev pub lowest_area : List ℕ → List ℕ → ℕ → ℕ → Line → List ℕ
lowest_area a area step set l = replay_area a area step set l (lowest_order (run_of a step l))

-- ---- What is promised of the steps (crate recovery: `StepsExact`, `StepsAtMost`, `CarriesOut`, `Completed`), of what
-- a caller gets: the number r that is returned, and a slice that begins with place, steps and, if it has room for it, 1
-- or 0 for complete

-- a complete order from a line that loses no message has exactly so many steps; the lowest order always does
abbrev pub ExactIn : Run → ℕ → List ℕ → Type 0
ExactIn R r answer = (place n : ℕ) (rest : List ℕ) → r ≡ 0 → answer ≡ place ∷ n ∷ 1 ∷ rest → LossFree R → n ≡ exact_steps R

abbrev pub LowestExactIn : Run → ℕ → List ℕ → Type 0
LowestExactIn R r answer = (place n : ℕ) (rest : List ℕ) → r ≡ 0 → answer ≡ place ∷ n ∷ rest → LossFree R → n ≡ exact_steps R

-- no order has more than these
abbrev pub AtMostIn : Run → List ℕ → Type 0
AtMostIn R answer =
    (place n : ℕ) (rest : List ℕ) → answer ≡ place ∷ n ∷ rest → (n ≤ most_steps R.trace) × (n ≤ exact_steps R)

-- an order that is not refused was carried out; the steps are its length, and 1 says that it is complete
abbrev pub CarriesOutIn : Run → List ℕ → ℕ → List ℕ → Type 0
CarriesOutIn R order r answer =
    (place n : ℕ) (rest : List ℕ) → r ≡ 0 → answer ≡ place ∷ n ∷ rest
    → (s : State) × (run R order ≡ carried_out s) × (n ≡ steps order) × ((c : ℕ) (more : List ℕ) → rest ≡ c ∷ more → (c ≡ 1) ↔ Complete R s)

-- the lowest order is never refused with 11, and always complete
abbrev pub CompletedIn : List ℕ → ℕ → ℕ → ℕ → Line → ℕ → List ℕ → Type 0
CompletedIn a room step set l r answer =
    line_fault_of a room step set l ≡ 0
    → (r ≡ 0) × ((place n c : ℕ) (rest : List ℕ) → answer ≡ place ∷ n ∷ c ∷ rest → c ≡ 1)

-- ---- Demands 2 and 3 (crates restart, messages, recovery: `Restarts`, `Lists`, `Equal`, `SameLists`), of what a
-- caller gets

-- a restart, read from a slice that has room for all its numbers
abbrev pub restart_given : List ℕ → RestartAnswer
restart_given answer =
    record {
      number = 0;
      place = get_or answer 0 0;
      line = record { epochs = take 64 (drop 4 answer); count = get_or answer 1 0 };
      going = get_or answer 3 0;
      back = get_or answer 2 0;
      epochs = take 64 (drop 68 answer);
      phases = take 64 (drop 132 answer);
    }

-- the line that is given is the greatest that loses no message, and those that go back are those that it says
abbrev pub RestartsIn : List ℕ → ℕ → ℕ → ℕ → List ℕ → Type 0
RestartsIn a step set r answer = r ≡ 0 → 196 ≤ length answer → Restarts (held a) step set (restart_given answer)

-- the counts that are given are those of the messages that the run area w lists, and it lists what it says
abbrev pub ListsIn : Run → ℕ → List ℕ → List ℕ → Type 0
ListsIn R r answer w = (place o k l : ℕ) (rest : List ℕ) → r ≡ 0 → answer ≡ place ∷ o ∷ k ∷ l ∷ rest → Lists R o k l w

-- a complete order leaves in the run area w the record of the run without failure exactly if the line loses no message:
-- its words, and its lists on every channel; the lowest order is always complete
abbrev pub LowestEqualIn : List ℕ → ℕ → Line → ℕ → List ℕ → Type 0
LowestEqualIn a step l r w =
    let R = run_of a step l in
    r ≡ 0
    → ((take area_words w ≡ words_from (faultless_at (held a)) 0 area_words) ↔ LossFree R)
    × (((p q : ℕ) → list_in (held a) w p q ≡ faultless R p q) ↔ LossFree R)

abbrev pub EqualIn : List ℕ → ℕ → Line → ℕ → List ℕ → List ℕ → Type 0
EqualIn a step l r answer w = (place n : ℕ) (rest : List ℕ) → answer ≡ place ∷ n ∷ 1 ∷ rest → LowestEqualIn a step l r w
